-- A contract fixes the result: two results of a comparison that meet it are equal. Assumes nothing.
use Prim.Native.Nat.{ℕ}
use mathlib.Core.Path.{◌≡◌, refl}
use Rattle.syntax.proofs.Only.{Only}
use Rattle.compare.proofs.Only.{told}
use Rattle.recorded.specs.Compared.{Compares}
use Rattle.std.specs.Prelude.{Option, Some, None}
use Rattle.recorded.proofs.recorded.is_recorded.Reads as is-recorded

pub only_recorded : Only is-recorded.Post
only_recorded = told

-- `rows_from`
pub only_compared : {end : ℕ} {P : Type 0} (r s : Option ℕ) → Compares end P r → Compares end P s → r ≡ s
only_compared (Some n) (Some m) k l = let here = (k.same n refl).0 in let there = (l.same m refl).0 in cc
only_compared (Some n) None k l = absurd (l.differs refl (k.same n refl).1)
only_compared None (Some m) k l = absurd (k.differs refl (l.same m refl).1)
only_compared None None k l = refl
