-- No two patterns match as long at one place, so priorities decide nothing: by the first byte one pattern matches at most, but for the backslash, of
-- whose two one matches two bytes and the other one. Computed byte by byte where the byte is no Word's. Assumes nothing.
use Prim.Native.Nat.{ℕ, zero, suc, ◌≤◌, ◌<◌}
use mathlib.Core.Path.{◌≡◌, refl, sym, ap, ◌∙◌}
use mathlib.Core.Bool.{Bool, true, false, not, cond, ◌&&◌, ◌||◌, and-eq-true_iff, or-true, false≢true}
use mathlib.Core.List.{List, [], ◌∷◌, ◌++◌, append-nil}
use native.Mathlib.Nat.{le_refl}
use native.Mathlib.Omega.{arith}
use lib.Dec.{eqb}
use lib.ListN.{get_or, take, drop}
use borrow.Author.Tests.{eqb-true, eqb-false, eq-eqb, not-false}
use Rattle.rules.specs.Notation.{bytes}
use Rattle.rules.specs.Patterns.{Pattern, patterns, no_pattern, beats, best_of, pattern_of, run, in_front, is_break, is_blank, is_word}
use Rattle.rules.proofs.Characters.{either}
use Rattle.rules.proofs.Longest.{longest}
use Rattle.rules.proofs.Lexemes.{silent, Each, done, ◌by◌also◌, each, word-quiet, word-still}

module _ (left : List ℕ) where
  -- how much the k-th pattern matches
  abbrev pub size : List Pattern → ℕ → ℕ
  size ps k = (get_or ps k no_pattern).matched left

  -- none matches so much, if it matches
  abbrev others : ℕ → List Pattern → Bool
  others n [] = true
  others n (p ∷ more) = (eqb (p.matched left) 0 || not (eqb (p.matched left) n)) && others n more

  -- of each pattern: it matches nothing, or none behind it matches as much
  abbrev untied : List Pattern → Bool
  untied [] = true
  untied (p ∷ more) = (eqb (p.matched left) 0 || others (p.matched left) more) && untied more

  -- what the tests tell
  other : (n : ℕ) (ps : List Pattern) → others n ps ≡ true → (k : ℕ) → size ps k ≡ n → n ≡ 0
  other n [] h k e = sym e
  other n (p ∷ more) h zero e =
      either (eqb (p.matched left) 0) (λ t. sym e ∙ eqb-true _ _ t) (λ f. absurd (false≢true (rw (f, eq-eqb (p.matched left) n e) at h)))
  other n (p ∷ more) h (suc k) e =
      other n more ((and-eq-true_iff (eqb (p.matched left) 0 || not (eqb (p.matched left) n)) (others n more)).0 h).1 k e

  first : (p : Pattern) (more : List Pattern) → untied (p ∷ more) ≡ true → (k : ℕ) → size more k ≡ p.matched left → p.matched left ≡ 0
  first p more h k e =
      either (eqb (p.matched left) 0) (λ t. eqb-true _ _ t)
      (λ f. other (p.matched left) more ((and-eq-true_iff (others (p.matched left) more) (untied more)).0 (rw f at h)).0 k e)

  apart : (ps : List Pattern) → untied ps ≡ true → (i j : ℕ) → (i ≡ j → ⊥) → size ps i ≡ size ps j → size ps i ≡ 0
  apart [] h i j differ e = refl
  apart (p ∷ more) h zero zero differ e = absurd (differ refl)
  apart (p ∷ more) h zero (suc j) differ e = first p more h j (sym e)
  apart (p ∷ more) h (suc i) zero differ e = e ∙ first p more h i e
  apart (p ∷ more) h (suc i) (suc j) differ e =
      let rest = ((and-eq-true_iff (eqb (p.matched left) 0 || others (p.matched left) more) (untied more)).0 h).1 in
      apart more rest i j (λ same. differ (ap suc same)) e

  -- patterns that match nothing are tied with none
  others_quiet : (n : ℕ) (ps : List Pattern) → silent left ps ≡ true → others n ps ≡ true
  others_quiet n [] h = refl
  others_quiet n (p ∷ more) h =
      either (eqb (p.matched left) 0) (λ t. rw t (others_quiet n more (rw t at h))) (λ f. absurd (false≢true (rw f at h)))

  quiet_then : (ps rest : List Pattern) → silent left ps ≡ true → untied rest ≡ true → untied (ps ++ rest) ≡ true
  quiet_then [] rest h ok = ok
  quiet_then (p ∷ more) rest h ok =
      either (eqb (p.matched left) 0) (λ t. rw t (quiet_then more rest (rw t at h) ok)) (λ f. absurd (false≢true (rw f at h)))

  -- one between such patterns is tied with none
  alone : (before : List Pattern) (p : Pattern) (more : List Pattern) → silent left before ≡ true → silent left more ≡ true
      → untied (before ++ (p ∷ more)) ≡ true
  alone before p more quiet still =
      let none-behind : untied more ≡ true = rw (append-nil more) at (quiet_then more [] still refl) in
      quiet_then before (p ∷ more) quiet (rw (others_quiet (p.matched left) more still, none-behind, or-true (eqb (p.matched left) 0)))

-- ---- by the first byte

-- a test that bytes of a list pass
abbrev all : (ℕ → Bool) → List ℕ → Bool
all test [] = true
all test (byte ∷ more) = test byte && all test more

-- so each of them does
passed : (test : ℕ → Bool) (keys : List ℕ) → all test keys ≡ true → Each (λ k. test k ≡ true) keys
passed test [] h = done
passed test (k ∷ keys) h = let both = (and-eq-true_iff (test k) (all test keys)).0 h in k by both.0 also passed test keys both.1

module _ (left : List ℕ) where
  abbrev fine : ℕ → Bool
  fine byte = untied (byte ∷ left) patterns

  abbrev Fine : ℕ → Type 0
  Fine byte = fine byte ≡ true

  breaks : Each Fine (0x0D ∷ 0x0A ∷ [])
  unfolding run
  breaks = passed fine (0x0D ∷ 0x0A ∷ []) (simp or-true)

  blanks : Each Fine (0x09 ∷ 0x0B ∷ 0x0C ∷ 0x20 ∷ [])
  unfolding run
  blanks = passed fine (0x09 ∷ 0x0B ∷ 0x0C ∷ 0x20 ∷ []) (simp or-true)

  marks : Each Fine (bytes "%{},$[]()~/_*@'\";&^#")
  unfolding run
  marks = passed fine (bytes "%{},$[]()~/_*@'\";&^#") (simp or-true)

  backslash : Fine 0x5C
  unfolding run
  backslash = either (in_front (0x5C ∷ []) left) (λ t. rw t) (λ f. rw f)

  word : (byte : ℕ) → is_word byte ≡ true → Fine byte
  word byte is =
      alone (byte ∷ left) (take 21 patterns) (get_or patterns 21 no_pattern) (drop 22 patterns) (word-quiet left byte is) (word-still left byte is)

  by_byte : (byte : ℕ) → Fine byte
  by_byte byte =
      either (is_word byte) (word byte)
      (λ no_word.
      either (is_break byte) (each Fine (0x0D ∷ 0x0A ∷ []) byte breaks)
      (λ no_break.
      either (is_blank byte) (each Fine (0x09 ∷ 0x0B ∷ 0x0C ∷ 0x20 ∷ []) byte blanks)
      (λ no_blank. each Fine (bytes "\\%{},$[]()~/_*@'\";&^#") byte (0x5C by backslash also marks)
      (not-false _ (rw (no_break, no_blank) at no_word)))))

untied_patterns : (left : List ℕ) → untied left patterns ≡ true
unfolding run
untied_patterns [] = refl
untied_patterns (byte ∷ left) = by_byte left byte

-- two different patterns that match as much match nothing
pub never_tied : (left : List ℕ) (i j : ℕ) → (i ≡ j → ⊥) → size left patterns i ≡ size left patterns j → size left patterns i ≡ 0
never_tied left = apart left patterns (untied_patterns left)

-- ---- the longest match alone

none_longer : {a b : ℕ} → 0 < a → a ≤ b → b ≡ 0 → ⊥
none_longer some low nothing = omega arith

as_long : {a b c : ℕ} → a ≤ c → c ≡ b → b ≤ a → a ≡ b
as_long low is high = omega arith

module _ (left : List ℕ) where
  -- the best is the one that was had before, or one of the patterns
  data Among (ps : List Pattern) (best p : Pattern) : Type 0 where
    had : p ≡ best → Among ps best p
    found : (k : ℕ) → p ≡ get_or ps k no_pattern → Among ps best p

  later : (p : Pattern) (more : List Pattern) (best : Pattern) {q : Pattern} (b : Bool) → Among more (cond b p best) q → Among (p ∷ more) best q
  later p more best true (had is) = found 0 is
  later p more best false (had is) = had is
  later p more best b (found k is) = found (suc k) is

  best_among : (ps : List Pattern) (best : Pattern) → Among ps best (best_of left best ps)
  best_among [] best = had refl
  best_among (p ∷ more) best = later p more best (beats left p best) (best_among more (cond (beats left p best) p best))

  the_best : Among patterns no_pattern (pattern_of left)
  unfolding pattern_of
  the_best = best_among patterns no_pattern

  -- a pattern that matches, and as much as any, is the token's: no priority is asked
  pub by_length : (k : ℕ) → 0 < size left patterns k → ((j : ℕ) → size left patterns j ≤ size left patterns k)
      → pattern_of left ≡ get_or patterns k no_pattern
  by_length k some most = by_place the_best
    where
      by_place : Among patterns no_pattern (pattern_of left) → pattern_of left ≡ get_or patterns k no_pattern
      by_place (had is) = absurd (none_longer some (longest left k) (ap (λ (p : Pattern). p.matched left) is))
      by_place (found j is) =
          either (eqb j k) (λ t. is ∙ ap (λ (n : ℕ). get_or patterns n no_pattern) (eqb-true j k t))
          (λ f.
          let same = as_long (longest left k) (ap (λ (p : Pattern). p.matched left) is) (most j) in
          absurd (none_longer some (le_refl (size left patterns k)) (never_tied left k j (λ e. eqb-false j k f (sym e)) same)))
