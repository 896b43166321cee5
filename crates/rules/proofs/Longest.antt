-- The token in front is the longest match: no pattern matches longer than the one that was taken, and no token is shorter than its pattern; so each
-- token of a text is, one behind the other. Assumes nothing.
use Prim.Native.Nat.{ℕ, zero, suc, ◌+◌, ◌≤◌, ◌<◌}
use mathlib.Core.Path.{◌≡◌, refl, sym, ap, subst, ◌∙◌}
use mathlib.Core.Bool.{Bool, true, false, cond, false≢true}
use mathlib.Core.List.{List, [], ◌∷◌, ◌++◌}
use native.Mathlib.Omega.{arith}
use lib.Dec.{eqb, ltb}
use lib.ListN.{length, get_or, take, drop}
use borrow.Author.Tests.{ltb-true, ltb-false, eqb-true}
use Rattle.rules.specs.Patterns.{Class, Pattern, patterns, beats, best_of, no_pattern, pattern_of, in_front, run}
use Rattle.rules.specs.Tables.{token_count}
use Rattle.rules.specs.Token
use Rattle.rules.specs.Tokeniser.{lexeme, token_rows, Longest, done, next}
use Rattle.rules.proofs.Characters.{either}
use Rattle.rules.proofs.LexemeSizes.{sized}
use Rattle.rules.proofs.Tiled.{Stand, kind_is, ends, walk}
use Rattle.rules.proofs.TokensOf.{first}

module _ (left : List ℕ) where
  abbrev size : Pattern → ℕ
  size p = p.matched left

  -- one that does not beat another is no longer, and one that does is no shorter
  no_longer : (p q : Pattern) → beats left p q ≡ false → size p ≤ size q
  no_longer p q loses =
      either (ltb (size q) (size p)) (λ t. absurd (false≢true (sym loses ∙ rw t))) (λ f. ltb-false (size q) (size p) f)

  no_shorter : (p q : Pattern) → beats left p q ≡ true → size q ≤ size p
  no_shorter p q wins =
      either (ltb (size q) (size p)) (λ t. let longer = ltb-true (size q) (size p) t in omega arith)
      (λ f.
      either (eqb (size q) (size p)) (λ e. let same = eqb-true (size q) (size p) e in omega arith) (λ e. absurd (false≢true (rw (f, e) at wins))))

  -- what is kept is as long as what was had
  keeps : (more : List Pattern) (best : Pattern) → size best ≤ size (best_of left best more)
  keeps [] best = omega arith
  keeps (p ∷ more) best =
      let on : Bool → ℕ = λ (b : Bool). size (best_of left (cond b p best) more) in
      either (beats left p best)
      (λ t.
      let kept = keeps more p in
      let shorter = no_shorter p best t in
      let same : size (best_of left best (p ∷ more)) ≡ size (best_of left p more) = ap on t in
      omega arith)
      (λ f.
      let kept = keeps more best in
      let same : size (best_of left best (p ∷ more)) ≡ size (best_of left best more) = ap on f in
      omega arith)

  as_each : (more : List Pattern) (best : Pattern) (k : ℕ) → size (get_or more k no_pattern) ≤ size (best_of left best more)
  as_each [] best k = omega arith
  as_each (p ∷ more) best zero =
      let on : Bool → ℕ = λ (b : Bool). size (best_of left (cond b p best) more) in
      either (beats left p best)
      (λ t.
      let kept = keeps more p in
      let same : size (best_of left best (p ∷ more)) ≡ size (best_of left p more) = ap on t in
      omega arith)
      (λ f.
      let kept = keeps more best in
      let longer = no_longer p best f in
      let same : size (best_of left best (p ∷ more)) ≡ size (best_of left best more) = ap on f in
      omega arith)
  as_each (p ∷ more) best (suc k) = as_each more (cond (beats left p best) p best) k

  pub longest : (k : ℕ) → (get_or patterns k no_pattern).matched left ≤ (pattern_of left).matched left
  unfolding pattern_of
  longest k = as_each patterns no_pattern k

  -- ---- a command's pattern is the backslash alone
  abbrev Short : Pattern → Type 0
  Short p = eqb p.kind Token.Generic ≡ true → size p ≤ 1

  abbrev no_command : List Pattern → Bool
  no_command [] = true
  no_command (p ∷ more) = cond (eqb p.kind Token.Generic) false (no_command more)

  abbrev backslash : Pattern
  backslash = get_or patterns 24 no_pattern

  backslash_short : Short backslash
  backslash_short is = either (in_front (0x5C ∷ []) left) (λ t. rw t (omega arith)) (λ f. rw f (omega arith))

  one_of : (b : Bool) (p best : Pattern) → Short p → Short best → Short (cond b p best)
  one_of true p best this that = this
  one_of false p best this that = that

  best_short : (more : List Pattern) (best : Pattern) → no_command more ≡ true → Short best → Short (best_of left best (more ++ (backslash ∷ [])))
  best_short [] best none short = one_of (beats left backslash best) backslash best backslash_short short
  best_short (p ∷ more) best none short =
      either (eqb p.kind Token.Generic) (λ t. absurd (false≢true (rw t at none)))
      (λ f.
      let other : Short p = λ is. absurd (false≢true (sym f ∙ is)) in
      best_short more (cond (beats left p best) p best) (rw f at none) (one_of (beats left p best) p best other short))

  command-short : Short (pattern_of left)
  unfolding pattern_of
  command-short = best_short (take 24 patterns) no_pattern refl (λ is. absurd (false≢true is))

by_pattern : (left : List ℕ) → eqb (pattern_of left).kind Token.Generic ≡ false → (lexeme left).size ≡ (pattern_of left).matched left
unfolding lexeme
by_pattern left other = rw other

-- "the longest match": no pattern matches more of what is left than the token's source range has
pub token-longest : (byte : ℕ) (left : List ℕ) (k : ℕ) → (get_or patterns k no_pattern).matched (byte ∷ left) ≤ (lexeme (byte ∷ left)).size
token-longest byte left k =
    let all = byte ∷ left in
    let most = longest all k in
    either (eqb (pattern_of all).kind Token.Generic)
    (λ t. omega (arith, most, command-short all t, (sized left byte).some))
    (λ f. omega (arith, most, by_pattern all f))

-- ---- "the longest run": each of its bytes is of the class
pub run-all : (of : Class) (left : List ℕ) (i : ℕ) → i < run of left → of (get_or left i 0) ≡ true
unfolding run
run-all of [] i there = absurd (omega arith)
run-all of (byte ∷ left) zero there = either (of byte) (λ t. t) (λ f. absurd (omega (arith, rw f at there)))
run-all of (byte ∷ left) (suc i) there =
    either (of byte) (λ t. run-all of left i (omega (arith, rw t at there))) (λ f. absurd (omega (arith, rw f at there)))

-- and the byte behind them, if there is one, is not
pub run_ends : (of : Class) (left : List ℕ) → run of left < length left → of (get_or left (run of left) 0) ≡ false
unfolding run
run_ends of [] there = absurd (omega arith)
run_ends of (byte ∷ left) there =
    either (of byte) (λ t. rw t (run_ends of left (omega (arith, rw t at there)))) (λ f. rw f f)

-- ---- each token of a text is the longest match at its place
module _ (text : List ℕ) where
  none_more : (i at : ℕ) → i ≡ token_count (token_rows text) → at ≡ length text → Longest text (token_rows text) i at
  none_more i at all end = done {i = i} all

  module _ (i at : ℕ) (stand : Stand text (token_rows text) i at) (here : at < length text) where
    token-here : (k : ℕ) → (get_or patterns k no_pattern).matched (drop at text) ≤ (lexeme (drop at text)).size
    token-here =
        subst (λ l. (k : ℕ) → (get_or patterns k no_pattern).matched l ≤ (lexeme l).size) (sym (first text at here))
        (token-longest (get_or text at 0) (drop (suc at) text))

    one_more : Longest text (token_rows text) (i + 1) (at + (lexeme (drop at text)).size) → Longest text (token_rows text) i at
    one_more rest =
        let ended = ends text stand here in
        next {i = i} (kind_is text stand here) ended (λ k. omega (arith, ended, token-here k))
        (subst (λ n. Longest text (token_rows text) (i + 1) n) (sym ended) rest)

  -- "the longest-match rules": no pattern matches past the end of a row's source range
  pub each-longest : Longest text (token_rows text) 0 0
  each-longest = walk text (token_rows text) (Longest text (token_rows text)) none_more one_more refl
