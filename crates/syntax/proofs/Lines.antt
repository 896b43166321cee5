-- A table of numbers whose lines are the arms of a `match`, arm k the k-th: which line the match gave, and that a rule which is tested over all
-- of the table's entries holds at each. A proof that cites this writes no line down: they are read off what the match tells of its arms, so what
-- is tested are the code's own constants. Assumes nothing.
use Prim.Native.Nat.{ℕ, suc, ◌+◌, ◌*◌, ◌-◌, ◌≤◌, ◌<◌}
use lib.ListN.{get_or}
use mathlib.Core.List.{List, ◌∷◌}
use mathlib.Core.Path.{◌≡◌, sym, ◌∙◌, ap}
use native.Mathlib.Omega.{arith}
use Rattle.rules.proofs.Table.{grid, at-cell}

-- `line` is the table's line at `row`; `lines` are those from `k` on
pub record Line (row line k : ℕ) (lines : List ℕ) : Type 0 where
  pub from : k ≤ row
  pub is : line ≡ get_or lines (row - k) 0

-- the match came by arm k
pub here : {row line k l : ℕ} {more : List ℕ} → row ≡ k → line ≡ l → Line row line k (l ∷ more)
here {row} {k = k} e is =
    let none_before : row - k ≡ 0 = omega arith in
    record { from = omega arith; is = rw none_before is }

-- or by one behind it
pub behind : {row line k l : ℕ} {more : List ℕ} → Line row line (suc k) more → Line row line k (l ∷ more)
behind {row} {k = k} later =
    let from = later.from in
    let one_before : row - k ≡ suc (row - suc k) = omega arith in
    record { from = omega arith; is = rw one_before later.is }

-- the rule at one entry, by the test over all: `entry` reads a column off a line
module _ {A : Type 0} (size width : ℕ) (entry rule : ℕ → ℕ → A) (other : A) where
  pub by_test :
      {row line : ℕ} {lines : List ℕ} (column : ℕ)
      → Line row line 0 lines
      → column < width
      → row * width + column < size
      → grid size width (λ row. entry (get_or lines row 0)) ≡ grid size width rule
      → entry line column ≡ rule row column
  by_test {row} {line} {lines} column at small inside test =
      let whole : row - 0 ≡ row = omega arith in
      let tested : ℕ → ℕ → A = λ row. entry (get_or lines row 0) in
      ap (λ (l : ℕ). entry l column) (at.is ∙ rw whole)
      ∙ sym (at-cell size width tested other row column small inside)
      ∙ ap (λ (l : List A). get_or l (row * width + column) other) test
      ∙ at-cell size width rule other row column small inside
