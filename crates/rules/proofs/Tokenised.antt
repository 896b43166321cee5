-- A run over what a text of ASCII bytes was cut into is never refused 3: the checks find no such row, and while reading only 5 to 8 come. What
-- `tokenise` answered tells that the text is such and where its rows stand. Assumes nothing.
use Prim.Native.Nat.{ℕ, ◌+◌, ◌*◌, ◌≤◌, ◌<◌}
use mathlib.Core.Path.{◌≡◌, refl, ap, ◌∙◌}
use mathlib.Core.Bool.{not, and-false}
use mathlib.Core.List.{List}
use Rattle.std.specs.Prelude.{Option, None as none, Some as some}
use native.Mathlib.Omega.{arith}
use lib.Dec.{leb, ltb}
use lib.ListN.{length, get_or, take, drop}
use lib.Seq.{take_at}
use borrow.Author.Tests.{leb-true, lt-leb}
use Rattle.rules.specs.Checks.{Tables, Refusal, shape_count, state_count, first_bad, within_limits, token_right, shape_or_state_right, at, checks, source_of}
use Rattle.rules.specs.Flat.{Built, Mark, flat, empty}
use Rattle.rules.specs.Limits
use Rattle.rules.specs.Outcome.{Out, went, refused}
use Rattle.rules.specs.Position.{Pos}
use Rattle.rules.specs.Reading.{parse}
use Rattle.rules.specs.Run.{Answer, accepted, refused_at, after_reading, after_checks, run}
use Rattle.rules.specs.Tables.{token_count}
use Rattle.rules.specs.Tokeniser as tokeniser
use Rattle.rules.specs.Tokeniser.{Tokenised, written, not_ascii, is_ascii, tokens_of, token_rows, judged, tokenise, fits}
use Rattle.rules.proofs.Alike.{AnyKnown, known-refusals}
use Rattle.rules.proofs.AllUnder.{AllUnder, by_place}
use Rattle.rules.proofs.Characters.{either}
use Rattle.rules.proofs.Checks.{all_right}
use Rattle.rules.proofs.Tiled.{rows_long}
use Rattle.rules.proofs.TokensRight.{rows_right}

-- ---- what `tokenise` answered

abbrev count_of : Tokenised → ℕ
count_of (written count) = count
count_of (tokeniser.refused_at number place) = 0

-- the text has ASCII bytes alone, and the rows that were written are in front
pub record Wrote (text : List ℕ) (count : ℕ) (buffer : List ℕ) : Type 0 where
  pub ascii : AllUnder 128 text
  pub rows : take (count * Limits.token_width) buffer ≡ token_rows text

module _ (text buffer : List ℕ) {count : ℕ} where
  long : length (tokens_of text) ≡ count → length (token_rows text) ≡ count * Limits.token_width
  unfolding token_rows
  long same = omega (arith, same, rows_long 0 (tokens_of text))

  told : (bad : Option ℕ) → first_bad (is_ascii text) (length text) 0 ≡ bad → (judged text buffer bad).0 ≡ written count
      → Wrote text count (judged text buffer bad).1
  told (some place) is e = let z : ◌≡◌ {A = ℕ} 0 1 = cc in absurd (omega arith)
  told none is e =
      either (fits text (length buffer))
      (λ t.
      let low : (i : ℕ) → i < length text → get_or text i 0 ≤ 127 = λ i there. leb-true _ 127 (all_right (is_ascii text) (length text) is i there) in
      let count_is : length (tokens_of text) ≡ count = ap count_of (rw t at e) in
      rw t
      (record {
        ascii = by_place 128 text (λ i there. omega (arith, low i there));
        rows = take_at (token_rows text) (drop (length (token_rows text)) buffer) (count * Limits.token_width) (long count_is);
      }))
      (λ f. let refused = rw f at e in let z : ◌≡◌ {A = ℕ} 0 1 = cc in absurd (omega arith))

  pub wrote : (tokenise text buffer).0 ≡ written count → Wrote text count (tokenise text buffer).1
  unfolding tokenise
  wrote = told (first_bad (is_ascii text) (length text) 0) refl

-- ---- the order of refusals, which texts small enough to be computed can't tell
module _ (text buffer : List ℕ) where
  -- a byte over 127 is told first, however long the text is and whatever room is lent
  pub high_first : (place : ℕ) → first_bad (is_ascii text) (length text) 0 ≡ some place
      → tokenise text buffer ≡ (tokeniser.refused_at not_ascii place, buffer)
  unfolding tokenise
  high_first place is = ap (judged text buffer) is

  -- more tokens than the limit are refused, whatever room is lent
  pub many_refused : first_bad (is_ascii text) (length text) 0 ≡ none → Limits.tokens < length (tokens_of text)
      → tokenise text buffer ≡ (tokeniser.refused_at 1 0, buffer)
  unfolding tokenise
  many_refused is many =
      ap (judged text buffer) is
      ∙ rw (lt-leb (length (tokens_of text)) Limits.tokens many, and-false (leb (length text) Limits.text))

-- ---- the numbers of refusals, and 0 where nothing is refused
abbrev number_of : Answer → ℕ
number_of (accepted rows drops) = 0
number_of (refused_at number place) = number

abbrev checked : Option Refusal → ℕ
checked none = 0
checked (some refusal) = refusal.0

module _ (t : Tables) (tree dropped : List ℕ) where
  abbrev other : ℕ → Type 0
  other number = number ≡ 3 → ⊥

  -- where no token row is bad, the checks don't refuse 3
  no_row : first_bad (token_right t) (token_count t.tokens) 0 ≡ none → other (checked (checks t (length dropped)))
  unfolding checks
  no_row right =
      let bad = first_bad (shape_or_state_right t) (shape_count t + state_count t) 0 in
      either (not (within_limits t)) (λ limits. rw limits (λ e. omega (arith, e)))
      (λ limits.
      either (ltb (length dropped) (token_count t.tokens * Limits.dropped_width)) (λ room. rw (limits, room) (λ e. omega (arith, e)))
      (λ room. rw (limits, room, right) (last bad)))
    where
      last : (bad : Option ℕ) → other (checked (at 4 bad none))
      last none e = omega (arith, e)
      last (some place) e = omega (arith, e)

  reading : (o : Out (Pos Built Mark)) → AnyKnown o → other (number_of (after_reading tree dropped o).answer)
  reading (went p) known e = omega (arith, e)
  reading (refused number place) known e = let low = known.low in omega (arith, low, e)

  checking : (o : Option Refusal) → other (checked o) → other (number_of (after_checks o t tree dropped).answer)
  checking none free = reading (parse (flat (length tree)) (source_of t) empty) (known-refusals (length tree) (source_of t))
  checking (some refusal) free = free

  no_3 : {place : ℕ} → AllUnder 128 t.text → t.tokens ≡ token_rows t.text → (run t tree dropped).answer ≡ refused_at 3 place → ⊥
  unfolding run
  no_3 ascii are e = checking (checks t (length dropped)) (no_row (rows_right t ascii are)) (ap number_of e)

  -- "what it gives passes rule 3": over the rows that were written of a text no run is refused 3, whatever shapes and states there are
  pub never_refused_3 :
      (buffer : List ℕ) {count place : ℕ}
      → (tokenise t.text buffer).0 ≡ written count
      → t.tokens ≡ take (count * Limits.token_width) (tokenise t.text buffer).1
      → (run t tree dropped).answer ≡ refused_at 3 place
      → ⊥
  never_refused_3 buffer e are = let w = wrote t.text buffer e in no_3 w.ascii (are ∙ w.rows)
