-- A leaf's range lies in the text.
use Rattle.std.proofs.Common.{◌≡◌, ℕ, ◌+◌, ◌≤◌, List, length, ap, arith, rules}
use Rattle.rules.specs.Questions.{Range, leaf_range}
use Rattle.rules.proofs.Questions.{range_inside}
use Rattle.questions.specs.Stands.{range_of}
use Rattle.questions.specs.declared.leaf.LeafRange.{LeafRange}
use Rattle.questions.proofs.leaf.leaf_text.Goals as goal

inside : (text tree : List ℕ) (row : ℕ) {r : LeafRange} → range_of r ≡ leaf_range text tree row → r.start + r.size ≤ length text
inside text tree row e = omega (arith, range_inside text tree row, ap (λ (q : Range). q.start) e, ap (λ (q : Range). q.size) e)

pub overflow_add-to : goal.overflow_add-to
overflow_add-to c = let fits = inside _ _ _ c.leaf_range-range.ensures in omega arith

pub slice_bounds-result-end : goal.slice_bounds-result-end
slice_bounds-result-end c = let fits = inside _ _ _ c.leaf_range-range.ensures in search rules
