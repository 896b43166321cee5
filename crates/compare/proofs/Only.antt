-- A contract fixes the result: where a comparison answers exactly where something holds, two answers are the same. Assumes nothing.
use mathlib.Core.Bool.{Bool}
use Rattle.syntax.proofs.Only.{Only, equal}
use Rattle.compare.specs.Tells.{Tells}
use Rattle.compare.proofs.Telling.{only}
use Rattle.compare.proofs.wide.Reads as wide
use Rattle.compare.proofs.same.Reads as same
use Rattle.compare.proofs.all_from.Reads as all_from
use Rattle.compare.proofs.stand_at.Reads as stand-at

-- for every crate
pub told : {L : Type 0} {A E : L → Type 0} {P : (κs : L) → A κs → E κs → Type 0} → Only {R = λ κs. Bool} (λ κs a r e. Tells (P κs a e) r)
told = record { same = λ κs a r s e t u. only r s t u }

-- for this one
pub equations : Only wide.Post
equations = equal

pub answers : Only same.Post × Only all_from.Post × Only stand-at.Post
answers = (told, told, told)
