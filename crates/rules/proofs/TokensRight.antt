-- What a text of ASCII bytes is cut into passes refusal 3: each kind is under 40, each token lies in the text, none has a shape, and a Word has at
-- least one byte, which is a character. Assumes nothing.
use Prim.Native.Nat.{ℕ, suc, ◌+◌, ◌-◌, ◌≤◌, ◌<◌}
use mathlib.Core.Path.{◌≡◌, refl, sym, ap, subst, ◌∙◌}
use mathlib.Core.Bool.{true}
use mathlib.Core.List.{List, ◌∷◌}
use Rattle.std.specs.Prelude.{None as none}
use native.Mathlib.Omega.{arith}
use lib.Dec.{eqb, ltb}
use lib.ListN.{length, get_or, drop}
use borrow.Author.Tests.{eqb-true, eqb-false, lt-ltb, le-leb, ltb-true, ne_eqb}
use Rattle.rules.specs.Characters.{char_length, is_utf8}
use Rattle.rules.specs.Checks.{Tables, shape_count, first_bad, word_right, token_right}
use Rattle.rules.specs.Commands.{kind_of}
use Rattle.rules.specs.Limits
use Rattle.rules.specs.Tables.{token_count, kind_at, start_at, length_at, shape_at}
use Rattle.rules.specs.Token
use Rattle.rules.specs.Tokeniser.{Lexeme, plain, environment, lexeme, token_rows}
use Rattle.rules.proofs.AllUnder.{AllUnder, nothing, under, under_take, under_drop}
use Rattle.rules.proofs.Characters.{either, utf8_rest, utf8_nothing}
use Rattle.rules.proofs.LexemeSizes.{word_of, size_of, word_kind, name_after, Front, matched, named, braced, fronts, Sized}
use Rattle.rules.proofs.Tiled.{Stand, kind_is, start_is, length_is, shape_is, rest_is, walk}
use Rattle.rules.proofs.TokensOf.{first, size_at}
use Rattle.rules.proofs.Spellings.{kind_passes, other_kind}

-- ---- ASCII bytes are characters
single : (b : ℕ) (bytes : List ℕ) → b < 128 → char_length (b ∷ bytes) ≡ 1
unfolding char_length
single b bytes low = rw (le-leb 0 b (omega arith), le-leb b 0x7F (omega arith))

ascii_utf8 : {bytes : List ℕ} → AllUnder 128 bytes → is_utf8 bytes ≡ true
ascii_utf8 nothing = utf8_nothing
ascii_utf8 (under {x} {xs} low rest) =
    let one = single x xs low in
    utf8_rest (x ∷ xs) (omega (arith, one)) ∙ ap (λ (n : ℕ). is_utf8 (drop n (x ∷ xs))) one ∙ ascii_utf8 rest

-- ---- a token's kind
pub record Kind (token : Lexeme) : Type 0 where
  pub small : token.kind < Limits.kinds
  pub word : token.kind ≡ Token.Word → 1 ≤ token.length

of_name : (word : List ℕ) (size : ℕ) → Kind (plain (kind_of word) size)
of_name word size =
    record {
      small = ltb-true (kind_of word) Limits.kinds (kind_passes (λ (n : ℕ). ltb n Limits.kinds) word refl);
      word = λ is. absurd (eqb-false (kind_of word) Token.Word (other_kind Token.Word word refl) is);
    }

of_braces : (kind size name : ℕ) → Kind (environment kind size name)
of_braces kind size name =
    either (eqb kind Token.ErrorBeginEnvironment) (λ t. rw t (record { small = omega arith; word = λ is. absurd (omega (arith, is)) }))
    (λ f. rw f (record { small = omega arith; word = λ is. absurd (omega (arith, is)) }))

by_front : {b : ℕ} {left : List ℕ} → Front left b → Kind (lexeme (b ∷ left))
by_front (matched kind size low some fits is) = subst Kind (sym is) (record { small = omega (arith, low); word = λ w. some })
by_front {left} (named is) = subst Kind (sym is) (of_name (word_of left) (size_of left))
by_front {left} (braced takes some is) = subst Kind (sym is) (of_braces (word_kind left) (size_of left) (name_after left))

pub kinds : (left : List ℕ) (b : ℕ) → Kind (lexeme (b ∷ left))
kinds left b = by_front (fronts left b)

-- ---- refusal 3
module _ (t : Tables) (ascii : AllUnder 128 t.text) where
  module _ {i at : ℕ} (stand : Stand t.text t.tokens i at) (here : at < length t.text) where
    abbrev token : Lexeme
    token = lexeme (drop at t.text)

    kind : Kind token
    kind = subst (λ l. Kind (lexeme l)) (sym (first t.text at here)) (kinds (drop (suc at) t.text) (get_or t.text at 0))

    size : Sized token (length t.text - at)
    size = size_at t.text at here

    word : kind_at t.tokens i ≡ Token.Word → word_right t i ≡ true
    unfolding word_right
    word is =
        let some = kind.word (sym (kind_is t.text stand here) ∙ is) in
        let long = length_is t.text stand here in
        rw (
          ne_eqb (length_at t.tokens i) 0 (λ empty. omega (arith, some, long, empty)),
          ascii_utf8 (under_take (length_at t.tokens i) (under_drop (start_at t.tokens i) ascii)),
        )

    row_right_lem : token_right t i ≡ true
    unfolding token_right
    row_right_lem =
        let small = kind_is t.text stand here in
        let from = start_is t.text stand here in
        let long = length_is t.text stand here in
        let shape = shape_is t.text stand here in
        rw (
          lt-ltb (kind_at t.tokens i) Limits.kinds (omega (arith, small, kind.small)),
          le-leb (start_at t.tokens i + length_at t.tokens i) (length t.text) (omega (arith, from, long, size.within, size.fits, here)),
          le-leb (shape_at t.tokens i) (shape_count t) (omega (arith, shape)),
        )
        (either (eqb (kind_at t.tokens i) Token.Word) (λ w. rw (w, word (eqb-true _ _ w))) (λ f. rw f))

  goes_on : (n i : ℕ) → token_right t i ≡ true → first_bad (token_right t) (suc n) i ≡ first_bad (token_right t) n (i + 1)
  unfolding first_bad
  goes_on n i right = rw right

  abbrev NoneFrom : ℕ → ℕ → Type 0
  NoneFrom i at = first_bad (token_right t) (token_count t.tokens - i) i ≡ none

  none_more : (i at : ℕ) → i ≡ token_count t.tokens → at ≡ length t.text → NoneFrom i at
  unfolding first_bad
  none_more i at all end =
      let nothing : token_count t.tokens - i ≡ 0 = omega (arith, all) in
      ap (λ (n : ℕ). first_bad (token_right t) n i) nothing

  one_more : (i at : ℕ) → Stand t.text t.tokens i at → at < length t.text → NoneFrom (i + 1) (at + (lexeme (drop at t.text)).size)
      → NoneFrom i at
  one_more i at stand here rest =
      ap (λ (n : ℕ). first_bad (token_right t) n i) (rest_is t.text stand here)
      ∙ goes_on (token_count t.tokens - (i + 1)) i (row_right_lem stand here)
      ∙ rest

-- "Word empty or not UTF-8", and the rest of refusal 3, never come of what a text of ASCII bytes is cut into, whatever shapes there are
pub rows_right : (t : Tables) → AllUnder 128 t.text → t.tokens ≡ token_rows t.text → first_bad (token_right t) (token_count t.tokens) 0 ≡ none
rows_right t ascii are =
    let whole : token_count t.tokens - 0 ≡ token_count t.tokens = omega arith in
    ap (λ (n : ℕ). first_bad (token_right t) n 0) (sym whole)
    ∙ walk t.text t.tokens (NoneFrom t ascii) (none_more t ascii) (one_more t ascii) are
