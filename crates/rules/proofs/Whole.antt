-- A formula that is whole is valid: right behind its start and right before its finish stand leaves, so the walks to its first and its last token,
-- which go into children, end there at once. Assumes nothing.
use Prim.Native.Nat.{ℕ, ◌+◌, ◌-◌}
use mathlib.Core.Bool.{true, false, ◌&&◌, and-false, and-eq-true_iff}
use mathlib.Core.List.{List}
use Rattle.std.specs.Prelude.{Option, None as none, Some as some}
use mathlib.Core.Path.{◌≡◌, refl, ◌∙◌}
use native.Mathlib.Omega.{arith}
use borrow.Author.Tests.{ltb-true, eqb-true}
use lib.Dec.{ltb, eqb}
use Rattle.rules.specs.Flat.{tag_start, tag_leaf, tag_finish}
use Rattle.rules.specs.Questions.{row_count, tag_at, tagged, formula, first_from, last_before, first_token, last_token, Delimiter, Leaf, leaf_at, is_delimiter, between, matched, is_valid, whole_in, is_whole}
use Rattle.rules.proofs.Characters.{either}
use Rattle.rules.proofs.Questions.{first_next, last_next, descend-leaf}

never : false ≡ true → ⊥
never e = let z : ◌≡◌ {A = ℕ} 0 1 = cc in omega arith

-- ---- where there is no leaf, nothing matches
module _ (text : List ℕ) where
  pub no_first : (last : Option Leaf) → matched text none last ≡ false
  unfolding matched between is_delimiter
  no_first last = refl

  no_closer : (opener closer : Delimiter) (first : Option Leaf) → between text opener closer first none ≡ false
  unfolding between is_delimiter
  no_closer opener closer first = and-false (is_delimiter text opener first)

  pub no_last : (first : Option Leaf) → matched text first none ≡ false
  unfolding matched
  no_last first = simp no_closer

-- ---- a row of which something is said is a leaf
leaf-tag : (tree : List ℕ) (row : ℕ) → (leaf_at tree (some row) ≡ none → ⊥) → tag_at tree row ≡ tag_leaf
unfolding tagged
leaf-tag tree row said =
    let there = ltb row (row_count tree) in
    let here = eqb (tag_at tree row) tag_leaf in
    either (there && here) (λ e. eqb-true (tag_at tree row) tag_leaf ((and-eq-true_iff there here).0 e).1) (λ other. absurd (said (rw other)))

module _ (text tree : List ℕ) (first last : ℕ) (yes : matched text (leaf_at tree (some first)) (leaf_at tree (some last)) ≡ true) where
  first-tag : tag_at tree first ≡ tag_leaf
  first-tag = leaf-tag tree first (λ gone. never (rw (gone, no_first text) at yes))

  last_tag : tag_at tree last ≡ tag_leaf
  last_tag = leaf-tag tree last (λ gone. never (rw (gone, no_last text) at yes))

module _ (text tree : List ℕ) (row : ℕ) where
  whole-then : (found : Option ℕ) → formula tree row ≡ found → whole_in text tree row found ≡ true → is_valid text tree row ≡ true
  unfolding whole_in first_token last_token
  whole-then none is e = absurd (never e)
  whole-then (some finish) is e =
      let first = row + 1 in
      let last = finish - 1 in
      let asked = (and-eq-true_iff (ltb first last) (matched text (leaf_at tree (some first)) (leaf_at tree (some last)))).0 e in
      let apart = ltb-true first last asked.0 in
      let first-is : first_from tree (finish - first) first ≡ some first =
      first_next tree finish first refl (omega arith) ∙ descend-leaf tag_start _ first _ (first-tag text tree first last asked.1) in
      let last_is : last_before tree finish ≡ some last =
      last_next tree finish refl (omega arith) ∙ descend-leaf tag_finish _ last _ (last_tag text tree first last asked.1) in
      rw (is, first-is, last_is) asked.1

  pub whole-is_valid : is_whole text tree row ≡ true → is_valid text tree row ≡ true
  whole-is_valid = whole-then (formula tree row) refl
