-- The token in front, by its first byte. Where one pattern matches and no other does, it is the longest; each pattern begins with a byte that no
-- other begins with, but for the backslash. Assumes nothing.
use Prim.Native.Nat.{ℕ, suc, ◌+◌, ◌<◌, ◌≤◌}
use mathlib.Core.Path.{◌≡◌, refl, sym, ap, subst, ◌∙◌}
use mathlib.Core.Bool.{Bool, true, false, cond, false≢true}
use mathlib.Core.List.{List, [], ◌∷◌, ◌++◌, map}
use native.Mathlib.Omega.{arith}
use lib.Dec.{eqb, leb}
use lib.ListN.{get_or, take, drop}
use borrow.Author.Tests.{eqb-true, lt-ltb, le-ltb, ne_eqb, leb-true}
use Rattle.rules.specs.Patterns.{Pattern, patterns, best_of, beats, no_pattern, run, in_front, pattern_of, is_break, is_blank, is_no_break, is_word}
use Rattle.rules.specs.Scope.{among}
use Rattle.rules.specs.Token
use Rattle.rules.specs.Tokeniser.{plain, command, lexeme}
use Rattle.rules.proofs.Characters.{either}

-- ---- one pattern matches, and no other
module _ (left : List ℕ) where
  abbrev pub silent : List Pattern → Bool
  silent [] = true
  silent (p ∷ more) = cond (eqb (p.matched left) 0) (silent more) false

  -- a pattern that matches nothing beats none that matches
  stays : (more : List Pattern) (best : Pattern) → silent more ≡ true → 0 < best.matched left → best_of left best more ≡ best
  stays [] best quiet some = refl
  stays (p ∷ more) best quiet some =
      either (eqb (p.matched left) 0)
      (λ e.
      let none : p.matched left ≡ 0 = eqb-true _ _ e in
      rw (le-ltb (best.matched left) (p.matched left) (omega arith), ne_eqb (best.matched left) (p.matched left) (λ same. omega arith))
      (stays more best (rw e at quiet) some))
      (λ f. absurd (false≢true (rw f at quiet)))

  comes :
      (before : List Pattern) (p : Pattern) (more : List Pattern) (best : Pattern)
      → silent before ≡ true
      → silent more ≡ true
      → 0 < p.matched left
      → best.matched left ≡ 0
      → best_of left best (before ++ (p ∷ more)) ≡ p
  comes [] p more best quiet still some none =
      let wins : beats left p best ≡ true = rw (lt-ltb (best.matched left) (p.matched left) (omega arith)) in
      ap (λ (t : Bool). best_of left (cond t p best) more) wins ∙ stays more p still some
  comes (q ∷ before) p more best quiet still some none =
      either (eqb (q.matched left) 0)
      (λ e.
      let on : Bool → Pattern = λ (t : Bool). best_of left (cond t q best) (before ++ (p ∷ more)) in
      either (beats left q best) (λ t. ap on t ∙ comes before p more q (rw e at quiet) still some (eqb-true _ _ e))
      (λ f. ap on f ∙ comes before p more best (rw e at quiet) still some none))
      (λ f. absurd (false≢true (rw f at quiet)))

  -- the k-th pattern is the one
  alone :
      (k : ℕ)
      → (take k patterns ++ (get_or patterns k no_pattern ∷ drop (suc k) patterns)) ≡ patterns
      → silent (take k patterns) ≡ true
      → silent (drop (suc k) patterns) ≡ true
      → 0 < (get_or patterns k no_pattern).matched left
      → pattern_of left ≡ get_or patterns k no_pattern
  unfolding pattern_of
  alone k parts quiet still some =
      ap (best_of left no_pattern) (sym parts)
      ∙ comes (take k patterns) (get_or patterns k no_pattern) (drop (suc k) patterns) no_pattern quiet still some refl

  -- and so is the token
  by_pattern :
      (k : ℕ)
      → (take k patterns ++ (get_or patterns k no_pattern ∷ drop (suc k) patterns)) ≡ patterns
      → silent (take k patterns) ≡ true
      → silent (drop (suc k) patterns) ≡ true
      → 0 < (get_or patterns k no_pattern).matched left
      → eqb (get_or patterns k no_pattern).kind Token.Generic ≡ false
      → lexeme left ≡ plain (get_or patterns k no_pattern).kind ((get_or patterns k no_pattern).matched left)
  unfolding lexeme
  by_pattern k parts quiet still some no-command = rw (alone k parts quiet still some, no-command)

-- ---- any byte of a list of them
pub data Each (P : ℕ → Type 0) : List ℕ → Type 0 where
  done : Each P []
  ◌by◌also◌ : (k : ℕ) {keys : List ℕ} → P k → Each P keys → Each P (k ∷ keys)

infixr 20 ◌by◌also◌
pub each : (P : ℕ → Type 0) (keys : List ℕ) (byte : ℕ) → Each P keys → among byte keys ≡ true → P byte
each P [] byte done h = absurd (false≢true h)
each P (k ∷ keys) byte (k' by this also others) h =
    either (eqb byte k) (λ t. subst P (sym (eqb-true byte k t)) this) (λ f. each P keys byte others (rw f at h))

-- ---- the token, by its first byte

-- the bytes that are tokens alone, with their kinds, in the order in which the pattern of a Word has them
abbrev pub singles : List (ℕ × ℕ)
singles =
    (0x7B, Token.LeftCurly) ∷ (0x7D, Token.RightCurly) ∷ (0x2C, Token.Comma) ∷ (0x5B, Token.LeftBracket) ∷ (0x5D, Token.RightBracket)
    ∷ (0x28, Token.LeftParen) ∷ (0x29, Token.RightParen) ∷ (0x7E, Token.Tilde) ∷ (0x2F, Token.Slash) ∷ (0x5F, Token.Underscore)
    ∷ (0x2A, Token.Asterisk) ∷ (0x40, Token.AtSign) ∷ (0x27, Token.Apostrophe) ∷ (0x22, Token.Ditto) ∷ (0x3B, Token.Semicolon)
    ∷ (0x26, Token.Ampersand) ∷ (0x5E, Token.Caret) ∷ (0x23, Token.Hash) ∷ []

abbrev pub alones : List ℕ
alones = map (λ (s : ℕ × ℕ). s.0) singles

-- the kind beside a number in a list; another if the number is not there
abbrev pub kind_from : ℕ → List (ℕ × ℕ) → ℕ → ℕ
kind_from other [] number = other
kind_from other (entry ∷ more) number = cond (eqb number entry.0) entry.1 (kind_from other more number)

abbrev pub kind_alone : ℕ → ℕ
kind_alone byte = kind_from Token.Word singles byte

module _ (left : List ℕ) where
  pub at-break : (byte : ℕ) → is_break byte ≡ true → lexeme (byte ∷ left) ≡ plain Token.LineBreak (run is_break (byte ∷ left))
  unfolding run
  at-break byte is =
      each (λ k. lexeme (k ∷ left) ≡ plain Token.LineBreak (run is_break (k ∷ left))) (0x0D ∷ 0x0A ∷ []) byte
      (0x0D by by_pattern (0x0D ∷ left) 0 refl refl refl (omega arith) refl
      also 0x0A by by_pattern (0x0A ∷ left) 0 refl refl refl (omega arith) refl
      also done)
      is

  pub at-blank : (byte : ℕ) → is_blank byte ≡ true → lexeme (byte ∷ left) ≡ plain Token.Whitespace (run is_blank (byte ∷ left))
  unfolding run
  at-blank byte is =
      each (λ k. lexeme (k ∷ left) ≡ plain Token.Whitespace (run is_blank (k ∷ left))) (0x09 ∷ 0x0B ∷ 0x0C ∷ 0x20 ∷ []) byte
      (0x09 by by_pattern (0x09 ∷ left) 1 refl refl refl (omega arith) refl
      also 0x0B by by_pattern (0x0B ∷ left) 1 refl refl refl (omega arith) refl
      also 0x0C by by_pattern (0x0C ∷ left) 1 refl refl refl (omega arith) refl
      also 0x20 by by_pattern (0x20 ∷ left) 1 refl refl refl (omega arith) refl
      also done)
      is

  pub at-percent : lexeme (0x25 ∷ left) ≡ plain Token.LineComment (1 + run is_no_break left)
  unfolding run
  at-percent = by_pattern (0x25 ∷ left) 2 refl refl refl (omega arith) refl

  pub at-dollars : lexeme (0x24 ∷ 0x24 ∷ left) ≡ plain Token.Dollar 2
  unfolding lexeme pattern_of run
  at-dollars = refl

  pub at-new_line : lexeme (0x5C ∷ 0x5C ∷ left) ≡ plain Token.NewLine 2
  unfolding lexeme pattern_of run
  at-new_line = refl

  pub at-dollar : in_front (0x24 ∷ []) left ≡ false → lexeme (0x24 ∷ left) ≡ plain Token.Dollar 1
  unfolding run
  at-dollar other = by_pattern (0x24 ∷ left) 22 refl refl refl (omega arith) refl ∙ rw other

  -- no second backslash stands behind it
  pub at-backslash : in_front (0x5C ∷ []) left ≡ false → lexeme (0x5C ∷ left) ≡ command (0x5C ∷ left)
  unfolding lexeme run
  at-backslash other = rw (alone (0x5C ∷ left) 24 refl (rw other) refl (omega arith))

  -- ---- a byte that stands alone for a kind
  pub at-single : (byte : ℕ) → among byte alones ≡ true → lexeme (byte ∷ left) ≡ plain (kind_alone byte) 1
  unfolding run
  at-single byte is =
      each (λ k. lexeme (k ∷ left) ≡ plain (kind_alone k) 1) alones byte
      (0x7B by by_pattern (0x7B ∷ left) 3 refl refl refl (omega arith) refl
      also 0x7D by by_pattern (0x7D ∷ left) 6 refl refl refl (omega arith) refl
      also 0x2C by by_pattern (0x2C ∷ left) 9 refl refl refl (omega arith) refl
      also 0x5B by by_pattern (0x5B ∷ left) 4 refl refl refl (omega arith) refl
      also 0x5D by by_pattern (0x5D ∷ left) 7 refl refl refl (omega arith) refl
      also 0x28 by by_pattern (0x28 ∷ left) 5 refl refl refl (omega arith) refl
      also 0x29 by by_pattern (0x29 ∷ left) 8 refl refl refl (omega arith) refl
      also 0x7E by by_pattern (0x7E ∷ left) 10 refl refl refl (omega arith) refl
      also 0x2F by by_pattern (0x2F ∷ left) 11 refl refl refl (omega arith) refl
      also 0x5F by by_pattern (0x5F ∷ left) 20 refl refl refl (omega arith) refl
      also 0x2A by by_pattern (0x2A ∷ left) 18 refl refl refl (omega arith) refl
      also 0x40 by by_pattern (0x40 ∷ left) 19 refl refl refl (omega arith) refl
      also 0x27 by by_pattern (0x27 ∷ left) 14 refl refl refl (omega arith) refl
      also 0x22 by by_pattern (0x22 ∷ left) 15 refl refl refl (omega arith) refl
      also 0x3B by by_pattern (0x3B ∷ left) 16 refl refl refl (omega arith) refl
      also 0x26 by by_pattern (0x26 ∷ left) 12 refl refl refl (omega arith) refl
      also 0x5E by by_pattern (0x5E ∷ left) 13 refl refl refl (omega arith) refl
      also 0x23 by by_pattern (0x23 ∷ left) 17 refl refl refl (omega arith) refl
      also done)
      is

  -- ---- a byte of a Word begins no other pattern
  module _ (byte : ℕ) (is : is_word byte ≡ true) where
    free : (k : ℕ) → is_word k ≡ false → eqb byte k ≡ false
    free k other = either (eqb byte k) (λ t. absurd (false≢true (sym other ∙ rw (← eqb-true byte k t) is))) (λ f. f)

    pub word-quiet : silent (byte ∷ left) (take 21 patterns) ≡ true
    unfolding run
    word-quiet =
        rw (
          free 0x0D refl,
          free 0x0A refl,
          free 0x09 refl,
          free 0x0B refl,
          free 0x0C refl,
          free 0x20 refl,
          free 0x25 refl,
          free 0x7B refl,
          free 0x7D refl,
          free 0x2C refl,
          free 0x5B refl,
          free 0x5D refl,
          free 0x28 refl,
          free 0x29 refl,
          free 0x7E refl,
          free 0x2F refl,
          free 0x5F refl,
          free 0x2A refl,
          free 0x40 refl,
          free 0x27 refl,
          free 0x22 refl,
          free 0x3B refl,
          free 0x26 refl,
          free 0x5E refl,
          free 0x23 refl,
        )

    pub word-still : silent (byte ∷ left) (drop 22 patterns) ≡ true
    word-still = rw (free 0x24 refl, free 0x5C refl)

    pub at-word : lexeme (byte ∷ left) ≡ plain Token.Word (run is_word (byte ∷ left))
    unfolding run
    at-word = by_pattern (byte ∷ left) 21 refl word-quiet word-still (rw is (omega arith)) refl

-- a byte of no Word that begins none of the longer patterns is a token alone
pub is_alone :
    (byte : ℕ)
    → is_word byte ≡ false
    → is_break byte ≡ false
    → is_blank byte ≡ false
    → eqb byte 0x5C ≡ false
    → eqb byte 0x25 ≡ false
    → eqb byte 0x24 ≡ false
    → among byte alones ≡ true
is_alone byte no_word no_break no_blank no-backslash no-percent no-dollar =
    either (among byte alones) (λ t. t) (λ f. absurd (false≢true (sym no_word ∙ word f)))
  where
    word : among byte alones ≡ false → is_word byte ≡ true
    word f = rw (no_break, no_blank, no-backslash, no-percent, no-dollar, f)

-- the kinds of a list and the other one are at most so much: so is the kind of a number
abbrev low_kinds : ℕ → List (ℕ × ℕ) → Bool
low_kinds most [] = true
low_kinds most (entry ∷ more) = cond (leb entry.1 most) (low_kinds most more) false

low_kind : (most other : ℕ) (entries : List (ℕ × ℕ)) (number : ℕ) → other ≤ most → low_kinds most entries ≡ true
    → kind_from other entries number ≤ most
low_kind most other [] number low h = low
low_kind most other (entry ∷ more) number low h =
    either (leb entry.1 most)
    (λ t.
    either (eqb number entry.0) (λ e. rw e (leb-true entry.1 most t)) (λ e. rw e (low_kind most other more number low (rw t at h))))
    (λ f. absurd (false≢true (rw f at h)))

pub kind_alone_low : (byte : ℕ) → kind_alone byte ≤ Token.NewLine
kind_alone_low byte = low_kind Token.NewLine Token.Word singles byte (omega arith) refl
