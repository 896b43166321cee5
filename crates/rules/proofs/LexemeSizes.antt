-- What a token in front can be, and how long it is: none is empty, and none goes past what is left. Assumes nothing.
use Prim.Native.Nat.{ℕ, suc, ◌+◌, ◌≤◌, ◌<◌}
use mathlib.Core.Path.{◌≡◌, sym, ap, subst, ◌∙◌}
use mathlib.Core.Bool.{true, false, ◌&&◌, and-eq-true_iff, false≢true}
use mathlib.Core.List.{List, [], ◌∷◌}
use native.Mathlib.Omega.{arith}
use lib.Dec.{eqb, ltb}
use lib.ListN.{length, take, drop, length-drop}
use borrow.Author.Tests.{eqb-true, ltb-true}
use Rattle.rules.specs.Commands.{is_letter, name_size, is_name, in_braces, kind_of, takes_name}
use Rattle.rules.specs.Notation.{bytes}
use Rattle.rules.specs.Patterns.{Class, run, in_front, is_word, is_blank, is_break, is_no_break}
use Rattle.rules.specs.Token
use Rattle.rules.specs.Tokeniser.{Lexeme, plain, environment, command, lexeme}
use Rattle.rules.proofs.Characters.{either}
use Rattle.rules.proofs.Lexemes.{at-word, at-blank, at-break, at-percent, at-dollars, at-dollar, at-new_line, at-backslash, at-single, is_alone, kind_alone, kind_alone_low}

pub run_fits : (of : Class) (left : List ℕ) → run of left ≤ length left
unfolding run
run_fits of [] = omega arith
run_fits of (byte ∷ left) = either (of byte) (λ t. rw t (omega (arith, run_fits of left))) (λ f. rw f (omega arith))

pub name-fits : (after : List ℕ) → name_size after ≤ length after
name-fits after =
    either (eqb (run is_letter after) 0)
    (λ t. rw t (either (eqb (length after) 0) (λ e. rw e (omega arith)) (λ f. rw f (omega (arith, some after f)))))
    (λ f. rw f (run_fits is_letter after))
  where
    some : (l : List ℕ) → eqb (length l) 0 ≡ false → 1 ≤ length l
    some [] f = absurd (false≢true (sym f))
    some (b ∷ l) f = omega arith

-- a byte that stands in front is there
pub there : (byte : ℕ) (left : List ℕ) → in_front (byte ∷ []) left ≡ true → 1 ≤ length left
there byte [] h = absurd (false≢true h)
there byte (b ∷ left) h = omega arith

pub braces_fit : (left : List ℕ) → 0 < in_braces left → in_braces left + 2 ≤ length left
unfolding in_braces
braces_fit left some =
    let name = run is_name (drop 1 left) in
    let behind = drop (1 + name) left in
    either (in_front (bytes "{") left)
    (λ t.
    either (in_front (bytes "}") behind)
    (λ u. rw (t, u) (omega (arith, there 0x7D behind u, length-drop (1 + name) left)))
    (λ f. absurd (omega (arith, rw (t, f) at some))))
    (λ f. absurd (omega (arith, rw f at some)))

-- a byte in front, and the bytes behind it
pub in_front_lem : (byte : ℕ) (left : List ℕ) → in_front (byte ∷ []) left ≡ true → left ≡ byte ∷ drop 1 left
in_front_lem byte [] h = absurd (false≢true h)
in_front_lem byte (first ∷ left) h =
    either (eqb first byte) (λ t. ap (λ (b : ℕ). b ∷ left) (eqb-true first byte t)) (λ f. absurd (false≢true (rw f at h)))

-- ---- the word behind a backslash, how long both are, and its kind; and how long a name stands in braces behind it
module _ (left : List ℕ) where
  abbrev pub word_of : List ℕ
  word_of = take (name_size left) left

  abbrev pub size_of : ℕ
  size_of = 1 + name_size left

  abbrev pub word_kind : ℕ
  word_kind = kind_of word_of

  abbrev pub name_after : ℕ
  name_after = in_braces (drop size_of (0x5C ∷ left))

-- ---- what a token in front can be: one of token.rs's patterns, whose kinds are 0 to 23; a command; or a \begin or \end with its name
pub data Front (left : List ℕ) : ℕ → Type 0 where
  matched : {byte : ℕ} (kind size : ℕ) → kind ≤ Token.NewLine → 1 ≤ size → size ≤ suc (length left) → lexeme (byte ∷ left) ≡ plain kind size
      → Front left byte
  named : lexeme (0x5C ∷ left) ≡ plain (word_kind left) (size_of left) → Front left 0x5C
  braced : takes_name (word_kind left) ≡ true → 0 < name_after left
      → lexeme (0x5C ∷ left) ≡ environment (word_kind left) (size_of left) (name_after left)
      → Front left 0x5C

module _ (left : List ℕ) where
  of_run : (byte : ℕ) (of : Class) (kind : ℕ) → kind ≤ Token.NewLine → of byte ≡ true → lexeme (byte ∷ left) ≡ plain kind (run of (byte ∷ left))
      → Front left byte
  unfolding run
  of_run byte of kind low is front =
      matched kind (suc (run of left)) low (omega arith) (omega (arith, run_fits of left)) (front ∙ rw is)

  twice : (k kind : ℕ) → kind ≤ Token.NewLine → in_front (k ∷ []) left ≡ true → lexeme (k ∷ k ∷ drop 1 left) ≡ plain kind 2 → Front left k
  twice k kind low again front =
      matched kind 2 low (omega arith) (omega (arith, there k left again)) (ap (λ (l : List ℕ). lexeme (k ∷ l)) (in_front_lem k left again) ∙ front)

  command-here : lexeme (0x5C ∷ left) ≡ command (0x5C ∷ left) → Front left 0x5C
  command-here is =
      either (takes_name (word_kind left) && ltb 0 (name_after left))
      (λ t.
      let both = (and-eq-true_iff (takes_name (word_kind left)) (ltb 0 (name_after left))).0 t in
      braced both.0 (ltb-true 0 (name_after left) both.1) (is ∙ rw t))
      (λ f. named (is ∙ rw f))

  backslash : Front left 0x5C
  backslash =
      either (in_front (0x5C ∷ []) left) (λ t. twice 0x5C Token.NewLine (omega arith) t (at-new_line (drop 1 left)))
      (λ f. command-here (at-backslash left f))

  dollar : Front left 0x24
  dollar =
      either (in_front (0x24 ∷ []) left) (λ t. twice 0x24 Token.Dollar (omega arith) t (at-dollars (drop 1 left)))
      (λ f. matched Token.Dollar 1 (omega arith) (omega arith) (omega arith) (at-dollar left f))

  comment : Front left 0x25
  comment = matched Token.LineComment (1 + run is_no_break left) (omega arith) (omega arith) (omega (arith, run_fits is_no_break left))
      (at-percent left)

  pub fronts : (byte : ℕ) → Front left byte
  fronts byte =
      either (is_word byte) (λ t. of_run byte is_word Token.Word (omega arith) t (at-word left byte t))
      (λ no_word.
      either (is_blank byte) (λ t. of_run byte is_blank Token.Whitespace (omega arith) t (at-blank left byte t))
      (λ no_blank.
      either (is_break byte) (λ t. of_run byte is_break Token.LineBreak (omega arith) t (at-break left byte t))
      (λ no_break.
      either (eqb byte 0x5C) (λ t. subst (Front left) (sym (eqb-true byte 0x5C t)) backslash)
      (λ no-backslash.
      either (eqb byte 0x25) (λ t. subst (Front left) (sym (eqb-true byte 0x25 t)) comment)
      (λ no-percent.
      either (eqb byte 0x24) (λ t. subst (Front left) (sym (eqb-true byte 0x24 t)) dollar)
      (λ no-dollar.
      matched (kind_alone byte) 1 (kind_alone_low byte) (omega arith) (omega arith)
      (at-single left byte (is_alone byte no_word no_break no_blank no-backslash no-percent no-dollar))))))))

-- ---- a token's source range, and its text in it
pub record Sized (token : Lexeme) (room : ℕ) : Type 0 where
  pub some : 1 ≤ token.size
  pub fits : token.size ≤ room
  pub within : token.lead + token.length ≤ token.size

of_size : (kind size room : ℕ) → 1 ≤ size → size ≤ room → Sized (plain kind size) room
of_size kind size room some fits = record { some = some; fits = fits; within = omega arith }

by_front : {byte : ℕ} {left : List ℕ} → Front left byte → Sized (lexeme (byte ∷ left)) (suc (length left))
by_front {left} (matched kind size low some fits is) =
    subst (λ t. Sized t (suc (length left))) (sym is) (of_size kind size (suc (length left)) some fits)
by_front {left} (named is) =
    subst (λ t. Sized t (suc (length left))) (sym is)
    (of_size (word_kind left) (size_of left) (suc (length left)) (omega arith) (omega (arith, name-fits left)))
by_front {left} (braced takes some is) =
    let closed = braces_fit (drop (size_of left) (0x5C ∷ left)) some in
    let behind = length-drop (size_of left) (0x5C ∷ left) in
    subst (λ t. Sized t (suc (length left))) (sym is)
    (record { some = omega arith; fits = omega (arith, closed, behind, name-fits left); within = omega arith })

pub sized : (left : List ℕ) (byte : ℕ) → Sized (lexeme (byte ∷ left)) (suc (length left))
sized left byte = by_front (fronts left byte)
