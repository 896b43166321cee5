-- What is left of each list of texts at a loop's turn: the text of its first row and those of the rest. Assumes nothing.
use Prim.Native.Nat.{ℕ, zero, suc, ◌+◌, ◌*◌, ◌-◌, ◌≤◌, ◌<◌}
use mathlib.Core.List.{List, [], ◌∷◌, ◌++◌}
use mathlib.Core.Path.{◌≡◌, refl, sym, ap, ◌∙◌}
use native.Mathlib.Numerals.{add-one}
use native.Mathlib.Omega.{arith}
use borrow.Author.Tests.{eq-eqb, ne_eqb}
use lib.ListN.{length, get_or, take, drop}
use lib.Seq.{take_at, drop-cons, length-sets, sets-eq}
use Rattle.std.proofs.lemmas.List.{get_or-take, get_or-drop}
use Rattle.std.specs.Simd.{first_chunks}
use Rattle.rules.specs.Flat.{tag_leaf}
use Rattle.rules.specs.Limits.{token_width}
use Rattle.rules.specs.Tables.{part}
use Rattle.rules.specs.PutBack.{rows_of, leaves, texts_of, token_text, texts_from, with_texts, dropped_after, back_from}
use Rattle.listings.specs.Contract.{most, Wrote}

-- the first rows of a buffer, which are cut out of it before they are counted
pub rows_are : (width n k : ℕ) (buffer : List ℕ) → n ≤ k → take n (first_chunks width k buffer) ≡ rows_of width n buffer
rows_are width zero k buffer fits = refl
rows_are width (suc n) zero buffer fits = absurd (omega arith)
rows_are width (suc n) (suc k) buffer fits =
    ap (λ (rows : List (List ℕ)). take width buffer ∷ rows) (rows_are width n k (drop width buffer) (omega arith))

-- ---- the texts of tokens from one on
pub tokens_next : (text tokens row : List ℕ) (count i : ℕ) → i < count → row ≡ part tokens (i * token_width) token_width
    → texts_from text tokens i (count - i) ≡ part text (get_or row 1 0) (get_or row 2 0) ++ texts_from text tokens (i + 1) (count - (i + 1))
tokens_next text tokens row count i more is =
    let one : count - i ≡ suc (count - (i + 1)) = omega arith in
    let cell : (column : ℕ) → column < token_width → get_or row column 0 ≡ get_or tokens (i * token_width + column) 0 = λ column low.
    rw is (get_or-take token_width (drop (i * token_width) tokens) column 0 low ∙ get_or-drop (i * token_width) tokens column 0) in
    rw (one, cell 1 (omega arith), cell 2 (omega arith))

-- ---- what was dropped behind so many leaves, from a dropped row on
module _ (text tokens : List ℕ) (k : ℕ) (rows : List (List ℕ)) (i : ℕ) (more : i < length rows) where
  abbrev pub dropped_from : ℕ → List ℕ
  dropped_from i = dropped_after k (with_texts text tokens (drop i rows))

  pub dropped-here : get_or (get_or rows i []) 2 0 ≡ k
      → dropped_from i ≡ token_text text tokens (get_or (get_or rows i []) 0 0) ++ dropped_from (i + 1)
  dropped-here e = rw (drop-cons rows i [] more, add-one i, eq-eqb _ _ e) refl

  pub dropped-elsewhere : (get_or (get_or rows i []) 2 0 ≡ k → ⊥) → dropped_from i ≡ dropped_from (i + 1)
  dropped-elsewhere ne = rw (drop-cons rows i [] more, add-one i, ne_eqb _ _ ne) refl

-- ---- what is put back, from a tree row on, before which there are so many leaves
abbrev pub back_texts : List ℕ → List (List ℕ × List ℕ) → ℕ → List (List ℕ) → List ℕ
back_texts text notes k rows = back_from k (texts_of text (leaves rows)) notes

module _ (text : List ℕ) (notes : List (List ℕ × List ℕ)) (k : ℕ) (rows : List (List ℕ)) (i : ℕ) (more : i < length rows) where
  pub back_leaf : get_or (get_or rows i []) 0 0 ≡ tag_leaf
      → back_texts text notes k (drop i rows)
      ≡ dropped_after k notes
      ++ (part text (get_or (get_or rows i []) 2 0) (get_or (get_or rows i []) 3 0) ++ back_texts text notes (k + 1) (drop (i + 1) rows))
  back_leaf e = rw (drop-cons rows i [] more, add-one i, eq-eqb _ _ e) refl

  pub back_other : (get_or (get_or rows i []) 0 0 ≡ tag_leaf → ⊥)
      → back_texts text notes k (drop i rows) ≡ back_texts text notes k (drop (i + 1) rows)
  back_other ne = rw (drop-cons rows i [] more, add-one i, ne_eqb _ _ ne) refl

-- ---- what is written whole stands at the buffer's start
pub written : {x t v : List ℕ} {r : ℕ} → Wrote x t 0 v r → length t < most → r ≤ length v → take r v ≡ x
written {x} {t} {v} {r} k short room =
    let kept : length v ≡ length t = ap length k.is ∙ length-sets t 0 x in
    let size : length x ≡ r = let n = k.next in omega arith in
    let fits : 0 + length x ≤ length t = omega arith in
    rw (k.is, sets-eq x t 0 fits) (take_at x (drop (0 + length x) t) r size)

-- two texts that are written whole, and whose bytes are the same
pub texts_same : {x y t u v w : List ℕ} {r s : ℕ} → Wrote x t 0 v r → Wrote y u 0 w s → r ≡ s
    → length t < most → length u < most → r ≤ length v → r ≤ length w
    → take r v ≡ take r w
    → x ≡ y
texts_same {w = w} {s = s} one other e short brief room space same =
    let all : s ≤ length w = omega arith in
    sym (written one short room) ∙ same ∙ ap (λ (k : ℕ). take k w) e ∙ written other brief all
