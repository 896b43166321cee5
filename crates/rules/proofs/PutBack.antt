-- Where each token is a leaf, the parts of a split Word or one dropped row, putting back gives the token texts, and dropped rows rise by token: by
-- induction over the tokens. A dropped row is met before the next leaf is, and not again, as later places have larger counts. Assumes nothing.
use Prim.Native.Nat.{ℕ, suc, ◌+◌, ◌-◌, ◌≤◌, ◌<◌}
use mathlib.Core.Path.{◌≡◌, refl, sym, ap, ◌∙◌}
use mathlib.Core.List.{List, [], ◌∷◌, ◌++◌, map, append_assoc}
use native.Mathlib.Omega.{arith}
use native.Mathlib.Nat.{le_refl}
use lib.ListN.{length, get_or, take, drop}
use lib.Dec.{eqb}
use lib.Seq.{drop-drop, take-add, get_or-take}
use borrow.Author.Tests.{eq-eqb, ne_eqb}
use Rattle.rules.specs.Flat.{four, tag_leaf, dropped_row}
use Rattle.rules.specs.Tables.{token_count, kind_at, part}
use Rattle.rules.specs.Token
use Rattle.rules.proofs.Characters.{either}
use Rattle.rules.proofs.Reached.{Leaves, Dropped}
use Rattle.rules.specs.PutBack.{Stretch, leaves, texts_of, token_text, dropped_after, back_from, Parts, last, more, EachToken, end, leaf, split, drops, Rises, none, next}

-- ---- dropped texts that stand elsewhere

module _ (d : List ℕ × List ℕ) (ds : List (List ℕ × List ℕ)) where
  -- how many leaves were written before it
  abbrev before : ℕ
  before = get_or d.0 2 0

  after_other : (k : ℕ) → (before ≡ k → ⊥) → dropped_after k (d ∷ ds) ≡ dropped_after k ds
  after_other k apart = rw (ne_eqb before k apart)

  after_here : (k : ℕ) → before ≡ k → dropped_after k (d ∷ ds) ≡ d.1 ++ dropped_after k ds
  after_here k e = rw (eq-eqb before k e)

  -- a dropped text is not met any more behind its place
  back_past : (k : ℕ) (leaves : List (List ℕ)) → before < k → back_from k leaves (d ∷ ds) ≡ back_from k leaves ds
  back_past k [] past = after_other k (λ e. omega arith)
  back_past k (l ∷ leaves) past = rw (after_other k (λ e. omega arith), back_past (k + 1) leaves (omega arith))

  -- and at its place it comes first
  back_here : (k : ℕ) (leaves : List (List ℕ)) → before ≡ k → back_from k leaves (d ∷ ds) ≡ d.1 ++ back_from k leaves ds
  back_here k [] e = after_here k e
  back_here k (l ∷ leaves) e =
      rw (after_here k e, back_past (k + 1) leaves (omega arith)) (append_assoc d.1 (dropped_after k ds) (l ++ back_from (k + 1) leaves ds))

-- ---- the texts of leaves are read off the first four numbers

pub four-texts : (text : List ℕ) (rows : List (List ℕ)) → texts_of text (leaves (map four rows)) ≡ texts_of text (leaves rows)
four-texts text [] = refl
four-texts text (row ∷ rows) =
    let same = four-texts text rows in
    let first : (i : ℕ) → i < 4 → get_or (four row) i 0 ≡ get_or row i 0 = λ i low. get_or-take 4 row i 0 low in
    either (eqb (get_or row 0 0) tag_leaf)
    (λ e.
    rw (first 0 (omega arith), first 2 (omega arith), first 3 (omega arith), e)
    (ap (λ (l : List (List ℕ)). part text (get_or row 2 0) (get_or row 3 0) ∷ l) same))
    (λ e. rw (first 0 (omega arith), e) same)

-- ---- the parts of a range are the range's text

pub part-add : (text : List ℕ) (start size rest : ℕ) → part text start (size + rest) ≡ part text start size ++ part text (start + size) rest
part-add text start size rest =
    take-add size rest (drop start text) ∙ ap (λ (l : List ℕ). part text start size ++ take rest l) (drop-drop size start text)

-- ---- token by token, with whatever is put around the text of a token that is no Word

module _ (text tokens : List ℕ) (around : ℕ → List ℕ → List ℕ) where
  -- of each leaf, and of each dropped row
  abbrev pub leaf_pieces : Leaves → List (List ℕ)
  leaf_pieces leaves = map (λ (l : Stretch). around l.token (part text l.start l.size)) leaves

  abbrev pub dropped_pieces : Dropped → List (List ℕ × List ℕ)
  dropped_pieces dropped = map (λ (row : List ℕ). (row, around (get_or row 0 0) (token_text text tokens (get_or row 0 0)))) dropped

  -- where no dropped text stands among the parts of a range, they give its text
  parts_text : {token start size : ℕ} {parts : Leaves} (leaves : Leaves) (ds : List (List ℕ × List ℕ)) (k : ℕ)
      → ((l : List ℕ) → around token l ≡ l)
      → Parts token start size parts
      → ((j : ℕ) → j < k + length parts → dropped_after j ds ≡ [])
      → back_from k (leaf_pieces (parts ++ leaves)) ds ≡ part text start size ++ back_from (k + length parts) (leaf_pieces leaves) ds
  parts_text {start} {size} leaves ds k bare (last some) away = rw (away k (omega arith), bare (part text start size))
  parts_text leaves ds k bare (more {start} {size} {rest} {parts} some others) away =
      let count : k + 1 + length parts ≡ k + suc (length parts) = omega arith in
      let after = parts_text leaves ds (k + 1) bare others (λ j low. away j (omega arith)) in
      rw (away k (omega arith), bare (part text start size), after, part-add text start size rest, count)
      (sym (append_assoc (part text start size) (part text (start + size) rest) (back_from (k + suc (length parts)) (leaf_pieces leaves) ds)))

  -- no dropped text stands before the leaves that are yet to come
  not_before : {i k : ℕ} {leaves : Leaves} {dropped : Dropped}
      → EachToken tokens i k leaves dropped
      → (j : ℕ)
      → j < k
      → dropped_after j (dropped_pieces dropped) ≡ []
  not_before (end e) j low = refl
  not_before (leaf there rest) j low = not_before rest j (omega arith)
  not_before (split there word parts rest) j low = not_before rest j (omega arith)
  not_before (drops {i} {k} {reason} {dropped} there rest) j low =
      after_other (dropped_row i reason k, around i (token_text text tokens i)) (dropped_pieces dropped) j (λ e. omega arith) ∙ not_before rest j low

  -- the tokens that are yet to come
  yet : (i : ℕ) → i < token_count tokens → token_count tokens - i ≡ suc (token_count tokens - (i + 1))
  yet i there = omega arith

  -- a Word's text stands alone, so that its parts are its text
  module _ (bare : (i : ℕ) → kind_at tokens i ≡ Token.Word → (l : List ℕ) → around i l ≡ l)
      (joined : ℕ → ℕ → List ℕ)
      (nothing : (i : ℕ) → joined i 0 ≡ [])
      (one_more : (i n : ℕ) → joined i (suc n) ≡ around i (token_text text tokens i) ++ joined (i + 1) n) where
    pub put_back_lem : {i k : ℕ} {leaves : Leaves} {dropped : Dropped}
        → EachToken tokens i k leaves dropped
        → back_from k (leaf_pieces leaves) (dropped_pieces dropped) ≡ joined i (token_count tokens - i)
    put_back_lem {i} (end e) = let over : token_count tokens - i ≡ 0 = omega arith in rw (over, nothing i)
    put_back_lem (leaf {i} {k} there rest) =
        rw (yet i there, one_more i (token_count tokens - (i + 1)), not_before rest k (omega arith), put_back_lem rest)
    put_back_lem (split {i} {k} {parts} {leaves} {dropped} there word are rest) =
        parts_text leaves (dropped_pieces dropped) k (bare i word) are (not_before rest)
        ∙ rw (yet i there, one_more i (token_count tokens - (i + 1)), bare i word (token_text text tokens i), put_back_lem rest)
    put_back_lem (drops {i} {k} {reason} {leaves} {dropped} there rest) =
        back_here (dropped_row i reason k, around i (token_text text tokens i)) (dropped_pieces dropped) k (leaf_pieces leaves) refl
        ∙ rw (yet i there, one_more i (token_count tokens - (i + 1)), put_back_lem rest)

-- each token is dropped at most once, and in the order of tokens
pub rises : {tokens : List ℕ} {i k : ℕ} {leaves : Leaves} {dropped : Dropped}
    → EachToken tokens i k leaves dropped
    → (low : ℕ)
    → low ≤ i
    → Rises tokens low dropped
rises (end e) low below = none
rises (leaf there rest) low below = rises rest low (omega arith)
rises (split there word parts rest) low below = rises rest low (omega arith)
rises (drops {i} there rest) low below = next below there (rises rest (i + 1) (le_refl (i + 1)))
