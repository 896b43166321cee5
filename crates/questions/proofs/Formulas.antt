-- A formula that was found: its finish lies behind its row, and in the rows. Assumes nothing.
use Prim.Native.Nat.{ℕ, ◌+◌, ◌≤◌, ◌<◌}
use mathlib.Core.List.{List}
use Rattle.std.specs.Prelude.{Some}
use mathlib.Core.Path.{◌≡◌, sym}
use native.Mathlib.Omega.{arith}
use Rattle.rules.specs.Questions.{row_count, formula}
use Rattle.rules.proofs.Questions.{formula-inside}

pub found : (tree : List ℕ) (row to : ℕ) → Some to ≡ formula tree row → (row + 1 ≤ to) × (to < row_count tree)
found tree row to is = let inside = formula-inside tree row (sym is) in (omega arith, omega arith)
