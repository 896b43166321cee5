-- A token's source range is its text, with a backslash to the brace before it and a brace behind it where it is a \begin or an \end with its name:
-- by the longest match a plain token is all text, and a command with a name in braces is spelled by its kind. Assumes nothing.
use Prim.Native.Nat.{ℕ, ◌+◌, ◌<◌}
use mathlib.Core.Path.{◌≡◌, refl, sym, ap, ap₂, subst, ◌∙◌}
use mathlib.Core.Bool.{true, false}
use mathlib.Core.List.{List, [], ◌∷◌, ◌++◌, append-nil, append_assoc}
use native.Mathlib.Omega.{arith}
use lib.Dec.{eqb}
use lib.ListN.{length, take, drop, length-append}
use lib.Seq.{take-add, drop-drop, length-take-le}
use borrow.Author.Tests.{eqb-true, ne_eqb}
use Rattle.rules.specs.Commands.{name_size, is_name, in_braces, takes_name, with_name}
use Rattle.rules.specs.Notation.{bytes}
use Rattle.rules.specs.Patterns.{run, in_front}
use Rattle.rules.specs.Token
use Rattle.rules.specs.Tokeniser.{Lexeme, plain, environment, lexeme, opening, closing}
use Rattle.rules.proofs.Characters.{either}
use Rattle.rules.proofs.LexemeSizes.{word_of, size_of, word_kind, name_after, Front, matched, named, braced, fronts, in_front_lem, name-fits}
use Rattle.rules.proofs.Spellings.{other_kind, begin-only, end-only}

pub record Sourced (token : Lexeme) (left : List ℕ) : Type 0 where
  pub is : take token.size left ≡ opening token.kind ++ (take token.length (drop token.lead left) ++ closing token.kind)
  pub lead : token.lead ≡ length (opening token.kind)
  pub size : token.size ≡ token.lead + token.length + length (closing token.kind)

-- ---- a token that is no \begin or \end with its name
of_plain : (kind size : ℕ) (left : List ℕ) → eqb kind Token.BeginEnvironment ≡ false → eqb kind Token.EndEnvironment ≡ false
    → Sourced (plain kind size) left
of_plain kind size left no-begin no_end =
    record {
      is = rw (no-begin, no_end) (sym (append-nil (take size left)));
      lead = rw (no-begin, no_end);
      size = rw (no-begin, no_end) (omega arith);
    }

-- ---- a name in braces
closed : (n : ℕ) (left : List ℕ) → in_front (0x7D ∷ []) (drop n left) ≡ true → take (n + 1) left ≡ take n left ++ (0x7D ∷ [])
closed n left shut = take-add n 1 left ∙ ap (λ (l : List ℕ). take n left ++ l) (ap (take 1) (in_front_lem 0x7D (drop n left) shut))

between :
    (n : ℕ) (rest : List ℕ)
    → in_front (0x7B ∷ []) rest ≡ true
    → in_front (0x7D ∷ []) (drop (1 + n) rest) ≡ true
    → take (1 + n + 1) rest ≡ 0x7B ∷ (take n (drop 1 rest) ++ (0x7D ∷ []))
between n rest begun shut =
    let behind = drop 1 rest in
    let all : 1 + n + 1 ≡ 1 + (n + 1) = omega arith in
    let there : drop n behind ≡ drop (1 + n) rest = drop-drop n 1 rest in
    ap (λ (k : ℕ). take k rest) all
    ∙ take-add 1 (n + 1) rest
    ∙ ap (λ (l : List ℕ). l ++ take (n + 1) behind) (ap (take 1) (in_front_lem 0x7B rest begun))
    ∙ ap (λ (l : List ℕ). 0x7B ∷ l) (closed n behind (ap (in_front (0x7D ∷ [])) there ∙ shut))

in_braces_lem : (rest : List ℕ) → 0 < in_braces rest
    → take (1 + in_braces rest + 1) rest ≡ 0x7B ∷ (take (in_braces rest) (drop 1 rest) ++ (0x7D ∷ []))
unfolding in_braces
in_braces_lem rest some =
    let size = run is_name (drop 1 rest) in
    either (in_front (bytes "{") rest)
    (λ t.
    either (in_front (bytes "}") (drop (1 + size) rest)) (λ u. rw (t, u) (between size rest t u)) (λ f. absurd (omega (arith, rw (t, f) at some))))
    (λ f. absurd (omega (arith, rw f at some)))

-- ---- a command
module _ (left : List ℕ) where
  abbrev All : List ℕ
  All = 0x5C ∷ left

  abbrev size : ℕ
  size = size_of left

  abbrev kind : ℕ
  kind = word_kind left

  abbrev name : ℕ
  name = name_after left

  -- a \begin or an \end, by the word that it is
  module _ (word : List ℕ) (both : ℕ) (is : word ≡ word_of left) (some : 0 < name) where
    front : take size All ≡ 0x5C ∷ word
    front = take-add 1 (name_size left) All ∙ ap (λ (l : List ℕ). 0x5C ∷ l) (sym is)

    behind : take (1 + name + 1) (drop size All) ≡ 0x7B ∷ (take name (drop (size + 1) All) ++ (0x7D ∷ []))
    behind = in_braces_lem (drop size All) some ∙ ap (λ (l : List ℕ). 0x7B ∷ (take name l ++ (0x7D ∷ []))) (drop-drop 1 size All)

    whole : take (size + 1 + name + 1) All ≡ (0x5C ∷ (word ++ (0x7B ∷ []))) ++ (take name (drop (size + 1) All) ++ (0x7D ∷ []))
    whole =
        let all : size + 1 + name + 1 ≡ size + (1 + name + 1) = omega arith in
        let text = take name (drop (size + 1) All) ++ (0x7D ∷ []) in
        ap (λ (k : ℕ). take k All) all
        ∙ take-add size (1 + name + 1) All
        ∙ ap₂ ◌++◌ front behind
        ∙ ap (λ (l : List ℕ). 0x5C ∷ l) (sym (append_assoc word (0x7B ∷ []) text))

    long : size + 1 ≡ length (0x5C ∷ (word ++ (0x7B ∷ [])))
    long =
        let word-long = ap length is ∙ length-take-le (name_size left) left (name-fits left) in
        omega (arith, word-long, length-append word (0x7B ∷ []))

    of_word : opening both ≡ 0x5C ∷ (word ++ (0x7B ∷ [])) → closing both ≡ 0x7D ∷ [] → with_name kind ≡ both
        → Sourced (environment kind size name) All
    of_word opens closes b-is =
        record {
          is = rw (b-is, opens, closes) whole;
          lead = rw (b-is, opens) long;
          size = rw (b-is, closes) (omega arith);
        }

  -- a name's kind is never 27 or 28
  of_name : Sourced (plain kind size) All
  of_name = of_plain kind size All (other_kind Token.BeginEnvironment (word_of left) refl) (other_kind Token.EndEnvironment (word_of left) refl)

  of_braces : takes_name kind ≡ true → 0 < name → Sourced (environment kind size name) All
  of_braces takes some =
      either (eqb kind Token.ErrorBeginEnvironment)
      (λ t. of_word (bytes "begin") Token.BeginEnvironment (begin-only (word_of left) (eqb-true _ _ t)) some refl refl (rw t))
      (λ f. of_word (bytes "end") Token.EndEnvironment (end-only (word_of left) (eqb-true _ _ (rw f at takes))) some refl refl (rw f))

by_front : {byte : ℕ} {left : List ℕ} → Front left byte → Sourced (lexeme (byte ∷ left)) (byte ∷ left)
by_front {byte} {left} (matched kind size low some fits is) =
    subst (λ t. Sourced t (byte ∷ left)) (sym is)
    (of_plain kind size (byte ∷ left) (ne_eqb kind Token.BeginEnvironment (λ e. omega (arith, low, e)))
    (ne_eqb kind Token.EndEnvironment (λ e. omega (arith, low, e))))
by_front {left} (named is) = subst (λ t. Sourced t (0x5C ∷ left)) (sym is) (of_name left)
by_front {left} (braced takes some is) = subst (λ t. Sourced t (0x5C ∷ left)) (sym is) (of_braces left takes some)

pub sourced : (left : List ℕ) (byte : ℕ) → Sourced (lexeme (byte ∷ left)) (byte ∷ left)
sourced left byte = by_front (fronts left byte)
