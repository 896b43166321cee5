-- What rows of any regular form have in common. Assumes nothing.
use Prim.Native.Nat.{ℕ, zero, suc, ◌+◌, ◌*◌, ◌≤◌}
use mathlib.Core.List.{List}
use mathlib.Core.Path.{◌≡◌, ◌∙◌}
use native.Mathlib.Nat.{zero-mul}
use native.Mathlib.Omega.{arith}
use lib.ListN.{length, length-append}
use Rattle.recorded.specs.Regular.{Regular}
use Rattle.recorded.specs.Recorded.{Form, rows_at, rows_end}

module _ {form : Form} (regular : Regular form) (case : List ℕ) where
  pub rows_long : (at n : ℕ) → length (rows_at form case at n) ≡ n * form.width
  unfolding rows_at
  rows_long at zero = rw zero-mul
  rows_long at (suc n) =
      length-append (form.row case at) (rows_at form case (at + form.bytes case at) n)
      ∙ rw (regular.long case at, rows_long (at + form.bytes case at) n) (omega arith)

  pub rows_near : (at n : ℕ) → rows_end form case at n ≤ at + 7 * n
  unfolding rows_end
  rows_near at zero = omega arith
  rows_near at (suc n) =
      let few = regular.few case at in
      let near = rows_near (at + form.bytes case at) n in
      omega arith
