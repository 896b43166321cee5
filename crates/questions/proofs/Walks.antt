-- What each walk over the rows comes to where it stands: by what is there, the walk from the next place on, or its end. Assumes nothing.
use Prim.Native.Nat.{ℕ, ◌+◌, ◌-◌, ◌<◌}
use mathlib.Core.Bool.{cond}
use mathlib.Core.List.{List}
use Rattle.std.specs.Prelude.{None as none, Some as some}
use mathlib.Core.Path.{◌≡◌, refl}
use lib.Dec.{eqb, ltb}
use Rattle.std.proofs.lemmas.Bool.Decides.{nat_tests}
use Rattle.rules.specs.Flat.{tag_start, tag_finish}
use Rattle.rules.specs.Questions.{tag_at, open_after, balance, descend, first_from, last_before}
use Rattle.rules.proofs.Questions.{one_more, open_after_most, balance-end, first_next, first-end, last_next, last_end}

pub balance_next : (tree : List ℕ) (rows at deep : ℕ) → at < rows
    → balance tree (rows - at) at deep
    ≡ cond (ltb tag_finish (tag_at tree at)) none
    (cond (eqb (open_after (tag_at tree at) deep) 0) (some at) (balance tree (rows - (at + 1)) (at + 1) (open_after (tag_at tree at) deep)))
unfolding balance
balance_next tree rows at deep there = rw (one_more rows at there)

pub first_row : (tree : List ℕ) (to at : ℕ) → at < to
    → first_from tree (to - at) at ≡ descend tag_start (tag_at tree at) at (first_from tree (to - (at + 1)) (at + 1))
first_row tree to at there = first_next tree to at refl there

pub last_row : (tree : List ℕ) (end : ℕ) → 0 < end
    → last_before tree end ≡ descend tag_finish (tag_at tree (end - 1)) (end - 1) (last_before tree (end - 1))
last_row tree end there = last_next tree end refl there

-- what each loop's goals are proved with, beside the tests of numbers
pub ruleset balances = (balance_next, balance-end, open_after_most, nat_tests)

pub ruleset first_rows = (first_row, first-end, nat_tests)

pub ruleset last_rows = (last_row, last_end, nat_tests)
