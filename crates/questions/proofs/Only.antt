-- The contracts fix what they speak of: two results that meet one are equal (crates/syntax/proofs/Only.antt). Each equates the result, or the range
-- that it stands for, with a rule's value; a leaf's text is fixed by its bytes and its place. Assumes nothing.
use Prim.Native.Nat.{ℕ}
use mathlib.Core.List.{List}
use mathlib.Core.Path.{◌≡◌, refl, sym, ◌∙◌}
use denote.Ref.{Bor}
use Rattle.rules.specs.Questions.{Range}
use Rattle.syntax.proofs.Only.{Only, equal, stands}
use Rattle.questions.specs.Contract.{LeafText}
use Rattle.questions.specs.Stands.{range_of}
use Rattle.questions.specs.declared.leaf.LeafRange.{LeafRange}
use Rattle.questions.proofs.delimiter.is_delimiter.Reads as is-delimiter
use Rattle.questions.proofs.formula.is_display.Reads as is-display
use Rattle.questions.proofs.formula.is_inline.Reads as is-inline
use Rattle.questions.proofs.formula.is_valid.Reads as is-valid
use Rattle.questions.proofs.formula.is_whole.Reads as is_whole
use Rattle.questions.proofs.leaf.is_leaf.Reads as is_leaf
use Rattle.questions.proofs.leaf.leaf_range.Reads as leaf-range
use Rattle.questions.proofs.matched.matched.Reads as matched
use Rattle.questions.proofs.rows.cell.Reads as cell
use Rattle.questions.proofs.rows.tagged.Reads as tagged
use Rattle.questions.proofs.tokens.first_token.Reads as first-token
use Rattle.questions.proofs.tokens.formula.Reads as formula
use Rattle.questions.proofs.tokens.last_token.Reads as last-token

pub questions : Only is-display.Post × Only is-inline.Post × Only is-valid.Post × Only is_whole.Post × Only is_leaf.Post
questions = (equal, equal, equal, equal, equal)

-- inside the crate
pub equations : Only is-delimiter.Post × Only matched.Post × Only cell.Post × Only tagged.Post
equations = (equal, equal, equal, equal)

pub only_found : Only formula.Post × Only first-token.Post × Only last-token.Post
only_found = (equal, equal, equal)

abbrev range : Range → LeafRange
range r = record { start = r.start; size = r.size }

from_range : (r : LeafRange) → range (range_of r) ≡ r
from_range r = refl

pub only_range : Only leaf-range.Post
only_range = stands range_of range from_range

-- the bytes that come back and where they lie; the name under which the prover tracks them is no part of a program
pub only_text : (text : Bor (List ℕ)) (tree : List ℕ) (row : ℕ) (r s : Bor (List ℕ)) → LeafText text tree row r → LeafText text tree row s
    → (r.now ≡ s.now) × (r.ref_ptr ≡ s.ref_ptr)
only_text text tree row r s e f = (e.is ∙ sym f.is, e.place ∙ sym f.place)
