-- A table's rule, proved by one test over all of its entries: antt lays the rule out as a list and compares that with the table.
-- The laws here turn the test into the rule at each entry. Assumes nothing.
use Prim.Native.Nat.{ℕ, zero, suc, ◌+◌, ◌*◌, ◌/◌, ◌%◌, ◌<◌, zero-le}
use mathlib.Core.List.{List, [], ◌∷◌}
use mathlib.Core.Path.{◌≡◌, refl, ◌∙◌, ap, ap₂}
use native.Mathlib.Nat.{add-zero, div-eq_of_lt, le_of_suc-le-suc, lt_of_le_of_lt, mod-eq_of_lt, mul-add-div_right, mul-add-mod_self_right, not-suc-le-zero}
use lib.ListN.{get_or}

module _ {A : Type 0} where
  -- what a rule says at each of the first `size` places
  abbrev pub table : ℕ → (ℕ → A) → List A
  table zero rule = []
  table (suc size) rule = rule 0 ∷ table size (λ place. rule (suc place))

  pub at : (size : ℕ) (rule : ℕ → A) (other : A) (place : ℕ) → place < size → get_or (table size rule) place other ≡ rule place
  at zero rule other place h = absurd (not-suc-le-zero h)
  at (suc size) rule other zero h = refl
  at (suc size) rule other (suc place) h = at size (λ place. rule (suc place)) other place (le_of_suc-le-suc h)

  -- the same for a rule of row and column, row after row of `width` entries
  abbrev pub grid : ℕ → ℕ → (ℕ → ℕ → A) → List A
  grid size width rule = table size (λ place. rule (place / width) (place % width))

  pub at-cell :
      (size width : ℕ) (rule : ℕ → ℕ → A) (other : A) (row column : ℕ)
      → column < width
      → row * width + column < size
      → get_or (grid size width rule) (row * width + column) other ≡ rule row column
  at-cell size width rule other row column h inside =
      at size (λ place. rule (place / width) (place % width)) other (row * width + column) inside
      ∙ ap₂ rule
      (mul-add-div_right (lt_of_le_of_lt zero-le h) row column ∙ ap (λ (n : ℕ). row + n) (div-eq_of_lt h) ∙ add-zero row)
      (mul-add-mod_self_right row width column ∙ mod-eq_of_lt h)
