-- The laws by which callers use the questions' definitions: what each walk over the rows comes to at the next row, which is its definition there,
-- and where the rows that it finds and the texts of leaves lie. Assumes nothing.
use Prim.Native.Nat.{ℕ, zero, suc, ◌+◌, ◌-◌, ◌≤◌, ◌<◌}
use mathlib.Core.Bool.{true, false, ◌&&◌, and-false, and-eq-true_iff}
use mathlib.Core.List.{List, [], ◌∷◌}
use Rattle.std.specs.Prelude.{Option, None as none, Some as some}
use mathlib.Core.Path.{◌≡◌, refl, ap, ◌∙◌}
use native.Mathlib.Numerals.{add-one}
use native.Mathlib.Omega.{arith}
use borrow.Author.Tests.{ltb-true, leb-true, lt-ltb, le-ltb, eq-eqb, ne_eqb}
use lib.Dec.{ltb, eqb, leb}
use lib.ListN.{length, get_or, drop, drop_of_length-le}
use lib.Seq.{drop-cons}
use Rattle.rules.specs.Flat.{tag_start, tag_leaf, tag_finish}
use Rattle.rules.specs.SyntaxKind.{ItemFormula}
use Rattle.rules.specs.Questions.{row_count, tag_at, kind_at, range_at, tagged, is_leaf, leaf_range, open_after, balance, formula, descend, first_from, last_before, Delimiter, same, leaf_text, leaf_at, is_delimiter}
use Rattle.rules.proofs.Characters.{either}

never : {A : Type 0} {a : A} → none ≡ some a → ⊥
never e = let z : ◌≡◌ {A = ℕ} 0 1 = cc in omega arith

pub one_more : (rows at : ℕ) → at < rows → rows - at ≡ suc (rows - (at + 1))
one_more rows at there = omega arith

pub no_more : (rows at : ℕ) → rows ≤ at → rows - at ≡ zero
no_more rows at end = omega arith

-- ---- rows and leaves
pub tagged-there : (tag : ℕ) (tree : List ℕ) (row : ℕ) → tagged tag tree row ≡ true → row < row_count tree
unfolding tagged
tagged-there tag tree row e = ltb-true row (row_count tree) ((and-eq-true_iff (ltb row (row_count tree)) (eqb (tag_at tree row) tag)).0 e).0

module _ (text tree : List ℕ) (row : ℕ) where
  is_leaf_lem : is_leaf text tree row ≡ true → (row < row_count tree) × ((range_at tree row).start + (range_at tree row).size ≤ length text)
  unfolding is_leaf
  is_leaf_lem e =
      let h = (and-eq-true_iff (tagged tag_leaf tree row) (leb ((range_at tree row).start + (range_at tree row).size) (length text))).0 e in
      (tagged-there tag_leaf tree row h.0, leb-true ((range_at tree row).start + (range_at tree row).size) (length text) h.1)

  pub leaf-there : is_leaf text tree row ≡ true → row < row_count tree
  leaf-there e = (is_leaf_lem e).0

  -- the text of a leaf lies in the text
  pub range_inside : (leaf_range text tree row).start + (leaf_range text tree row).size ≤ length text
  unfolding leaf_range
  range_inside = either (is_leaf text tree row) (λ e. rw e (is_leaf_lem e).1) (λ e. rw e (omega arith))

  -- what is asked of a leaf inside the text, and of another row
  module _ (d : Delimiter) where
    pub delimiter-inside : is_leaf text tree row ≡ true
        → is_delimiter text d (leaf_at tree (some row)) ≡ (eqb (kind_at tree row) d.kind && same (leaf_text text tree row) d.bytes)
    unfolding is_leaf is_delimiter leaf_text leaf_range
    delimiter-inside e =
        let h = (and-eq-true_iff (tagged tag_leaf tree row) (leb ((range_at tree row).start + (range_at tree row).size) (length text))).0 e in
        rw (h.0, h.1)

    pub delimiter-outside : is_leaf text tree row ≡ false → is_delimiter text d (leaf_at tree (some row)) ≡ false
    unfolding is_leaf is_delimiter
    delimiter-outside e = either (tagged tag_leaf tree row) (λ leaf. rw leaf (rw (rw leaf at e))) (λ other. rw other)

-- ---- the matching finish
pub open_after_most : (tag deep : ℕ) → open_after tag deep ≤ deep + 1
unfolding open_after
open_after_most tag deep =
    either (eqb tag tag_start) (λ starts. rw starts (omega arith))
    (λ other. either (eqb tag tag_finish) (λ ends. rw (other, ends) (omega arith)) (λ same. rw (other, same) (omega arith)))

module _ (tree : List ℕ) (rows at deep : ℕ) where
  module _ {tag : ℕ} (is : tag ≡ tag_at tree at) (there : at < rows) where
    pub balance-never : tag_finish < tag → balance tree (rows - at) at deep ≡ none
    unfolding balance
    balance-never over = rw (one_more rows at there, ← is, lt-ltb tag_finish tag over)

    pub balance-here : tag ≤ tag_finish → open_after tag deep ≡ 0 → balance tree (rows - at) at deep ≡ some at
    unfolding balance
    balance-here small shut = rw (one_more rows at there, ← is, le-ltb tag_finish tag small, eq-eqb (open_after tag deep) 0 shut)

    pub balance-on :
        tag ≤ tag_finish
        → (open_after tag deep ≡ 0 → ⊥)
        → balance tree (rows - at) at deep ≡ balance tree (rows - (at + 1)) (at + 1) (open_after tag deep)
    unfolding balance
    balance-on small more = rw (one_more rows at there, ← is, le-ltb tag_finish tag small, ne_eqb (open_after tag deep) 0 more)

  pub balance-end : rows ≤ at → balance tree (rows - at) at deep ≡ none
  unfolding balance
  balance-end end = rw (no_more rows at end)

-- a row that is found is one of those that were walked over
pub record Among (at rows found : ℕ) : Type 0 where
  pub low : at ≤ found
  pub high : found < at + rows

balance-among : (tree : List ℕ) (rows at deep : ℕ) {found : ℕ} → balance tree rows at deep ≡ some found → Among at rows found
unfolding balance
balance-among tree zero at deep e = absurd (never e)
balance-among tree (suc rows) at deep {found} e =
    let next = open_after (tag_at tree at) deep in
    either (ltb tag_finish (tag_at tree at)) (λ over. absurd (never (rw over at e)))
    (λ small.
    either (eqb next 0)
    (λ shut.
    let same : at ≡ found = cc (rw (small, shut) at e) in
    record { low = omega arith; high = omega arith })
    (λ more.
    let later = balance-among tree rows (at + 1) next (rw (small, more) at e) in
    record { low = omega arith; high = omega arith }))

pub formula-inside : (tree : List ℕ) (row : ℕ) {found : ℕ} → formula tree row ≡ some found → (row < found) × (found < row_count tree)
unfolding formula
formula-inside tree row e =
    either (tagged tag_start tree row && eqb (kind_at tree row) ItemFormula)
    (λ starts.
    let among = balance-among tree (row_count tree - (row + 1)) (row + 1) 1 (rw starts at e) in
    (omega arith, omega arith))
    (λ other. absurd (never (rw other at e)))

-- ---- the first and the last token
module _ (edge tag at : ℕ) (inside : Option ℕ) where
  pub descend-leaf : tag ≡ tag_leaf → descend edge tag at inside ≡ some at
  descend-leaf leaf = rw (eq-eqb tag tag_leaf leaf)

  pub descend-none : (tag ≡ tag_leaf → ⊥) → (tag ≡ edge → ⊥) → descend edge tag at inside ≡ none
  descend-none other empty = rw (ne_eqb tag tag_leaf other, ne_eqb tag edge empty)

  pub descend-into : (tag ≡ tag_leaf → ⊥) → tag ≡ edge → descend edge tag at inside ≡ inside
  descend-into other node = rw (ne_eqb tag tag_leaf other, eq-eqb tag edge node)

module _ (tree : List ℕ) (to at : ℕ) where
  pub first_next : {tag : ℕ}
      → tag ≡ tag_at tree at
      → at < to
      → first_from tree (to - at) at ≡ descend tag_start tag at (first_from tree (to - (at + 1)) (at + 1))
  unfolding first_from
  first_next is there = rw (one_more to at there, ← is)

  pub first-end : to ≤ at → first_from tree (to - at) at ≡ none
  unfolding first_from
  first-end end = rw (no_more to at end)

pub last_step : (tree : List ℕ) (at : ℕ) {tag : ℕ} → tag ≡ tag_at tree at
    → last_before tree (at + 1) ≡ descend tag_finish tag at (last_before tree at)
unfolding last_before
last_step tree at is = rw (add-one, ← is)

module _ (tree : List ℕ) (end : ℕ) where
  pub last_next : {tag : ℕ} → tag ≡ tag_at tree (end - 1) → 0 < end
      → last_before tree end ≡ descend tag_finish tag (end - 1) (last_before tree (end - 1))
  last_next is there =
      let up : end ≡ end - 1 + 1 = omega arith in
      ap (last_before tree) up ∙ last_step tree (end - 1) is

  pub last_end : end ≤ 0 → last_before tree end ≡ none
  unfolding last_before
  last_end none_left = let is : end ≡ zero = omega arith in rw is

-- ---- two texts
pub same-lengths : (a b : List ℕ) → (length a ≡ length b → ⊥) → same a b ≡ false
unfolding same
same-lengths [] [] other = absurd (other refl)
same-lengths [] (b ∷ rest) other = refl
same-lengths (a ∷ rest) [] other = refl
same-lengths (a ∷ more) (b ∷ rest) other = rw (same-lengths more rest (λ e. other (ap suc e)), and-false)

module _ (a b : List ℕ) (i : ℕ) (alike : length a ≡ length b) where
  pub same_next : i < length a → same (drop i a) (drop i b) ≡ (eqb (get_or a i 0) (get_or b i 0) && same (drop (i + 1) a) (drop (i + 1) b))
  unfolding same
  same_next more = rw (add-one, drop-cons a i 0 more, drop-cons b i 0 (omega arith))

  pub same_end : length a ≤ i → same (drop i a) (drop i b) ≡ true
  unfolding same
  same_end end =
      let ended : length b ≤ i = omega arith in
      rw (drop_of_length-le a end, drop_of_length-le b ended)
