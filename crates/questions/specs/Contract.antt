-- What the contract of a leaf's text says.
use Rattle.std.specs.Prelude.{ℕ, ◌+◌, ◌≡◌, List}
use Rattle.std.specs.Borrow.{Bor}
use Rattle.rules.specs.Questions.{leaf_range, leaf_text}

-- "comes back as that part of the caller's text": the bytes that came back, and the place where they begin, so many bytes behind the place where
-- the text does
pub record LeafText (text : Bor (List ℕ)) (tree : List ℕ) (row : ℕ) (r : Bor (List ℕ)) : Type 0 where
  pub is : r.now ≡ leaf_text text.now tree row
  pub place : r.ref_ptr ≡ (text.ref_ptr.0, (leaf_range text.now tree row).start + text.ref_ptr.1)
