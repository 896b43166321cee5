-- A contract fixes the result: two results that meet it are equal, of a replay all three answers. Assumes nothing.
use mathlib.Core.List.{List}
use Rattle.std.specs.Prelude.{Option, Some, None}
use mathlib.Core.Path.{◌≡◌, sym, ◌∙◌}
use Prim.Native.Nat.{ℕ}
use Rattle.rules.specs.Checks.{Tables}
use Rattle.syntax.proofs.Only.{Only, equal}
use Rattle.compare.proofs.Telling.{only}
use Rattle.replay.specs.Replays.{ReplaysOn, tables_in}
use Rattle.replay.specs.declared.case.Replayed.{Replayed}
use Rattle.replay.proofs.case.replay.Reads as replay
use Rattle.replay.proofs.tally.Tally.with.Reads as with

only_on : (case : List ℕ) (t : Option Tables) (r s : Replayed) → ReplaysOn case t r → ReplaysOn case t s → r ≡ s
only_on case None r s e f = e ∙ sym f
only_on case (Some t) r s k l =
    rw (only _ _ k.agrees l.agrees, k.accepted ∙ sym l.accepted, only _ _ k.returns l.returns)

pub only_replay : Only replay.Post
only_replay = record { same = λ κs a r s e k l. only_on _ (tables_in _) r s k.on l.on }

pub only_with : Only with.Post
only_with = equal
