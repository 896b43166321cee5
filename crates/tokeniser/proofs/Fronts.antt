-- The token at a place of the text, by the byte that stands there. Assumes nothing.
use Prim.Native.Nat.{ℕ, suc, ◌+◌, ◌-◌, ◌<◌}
use mathlib.Core.Path.{◌≡◌, sym, ap, subst, ◌∙◌}
use mathlib.Core.Bool.{true, false}
use mathlib.Core.List.{List, [], ◌∷◌}
use native.Mathlib.Omega.{arith}
use lib.ListN.{length, get_or, drop}
use lib.Seq.{drop-cons}
use Rattle.rules.specs.Patterns.{Class, run, in_front, is_break, is_blank, is_no_break, is_word}
use Rattle.rules.specs.Scope.{among}
use Rattle.rules.specs.Token
use Rattle.rules.specs.Tokeniser.{plain, command, lexeme}
use Rattle.rules.proofs.LexemeSizes.{in_front_lem}
use Rattle.rules.proofs.Lexemes.{at-break, at-blank, at-percent, at-dollars, at-dollar, at-new_line, at-backslash, at-single, at-word, alones, kind_alone}
use Rattle.tokeniser.specs.Lexemes.{Stands}
use Rattle.tokeniser.specs.declared.lexeme.Lexeme.{Lexeme}
use Rattle.tokeniser.proofs.Bytes.{goes_on}

module _ (text : List ℕ) (at : ℕ) (here : at < length text) where
  abbrev byte : ℕ
  byte = get_or text at 0

  first : drop at text ≡ byte ∷ drop (at + 1) text
  first = let next : at + 1 ≡ suc at = omega arith in rw next (drop-cons text at 0 here)

  -- the code's token is the one that stands here; it is a plain one of a kind and a size
  abbrev pub Here : Lexeme → Type 0
  Here r = Stands at (lexeme (drop at text)) r

  abbrev pub Plain : ℕ → ℕ → Lexeme → Type 0
  Plain kind size r = Stands at (plain kind size) r

  by_size : {kind size n : ℕ} {r : Lexeme} → lexeme (drop at text) ≡ plain kind size → size ≡ n → Plain kind n r → Here r
  by_size is same given = rw (is, same) given

  abbrev behind : List ℕ
  behind = drop (at + 1) text

  -- ---- a run of the class that its first byte is of
  abbrev Ends : ℕ → Class → Type 0
  Ends end of = end ≡ at + 1 + run of behind

  module _ (end : ℕ) {r : Lexeme} where
    run_on : (of : Class) (kind : ℕ) → of byte ≡ true → lexeme (byte ∷ behind) ≡ plain kind (run of (byte ∷ behind)) → Ends end of
        → Plain kind (end - at) r
        → Here r
    run_on of kind is front ends =
        by_size (ap lexeme first ∙ front ∙ ap (λ (l : List ℕ). plain kind (run of l)) (sym first)) (omega (arith, ends, goes_on of text at here is))

    pub word : is_word byte ≡ true → Ends end is_word → Plain Token.Word (end - at) r → Here r
    word is = run_on is_word Token.Word is (at-word behind byte is)

    pub blank : is_blank byte ≡ true → Ends end is_blank → Plain Token.Whitespace (end - at) r → Here r
    blank is = run_on is_blank Token.Whitespace is (at-blank behind byte is)

    pub break : is_break byte ≡ true → Ends end is_break → Plain Token.LineBreak (end - at) r → Here r
    break is = run_on is_break Token.LineBreak is (at-break behind byte is)

  -- ---- a byte that is known
  known : (k : ℕ) → byte ≡ k → drop at text ≡ k ∷ behind
  known k is = first ∙ ap (λ (b : ℕ). b ∷ behind) is

  pub comment : (end : ℕ) {r : Lexeme} → byte ≡ 0x25 → end ≡ at + 1 + run is_no_break behind → Plain Token.LineComment (end - at) r → Here r
  comment end is ends = by_size (ap lexeme (known 0x25 is) ∙ at-percent behind) (omega (arith, ends))

  -- the byte stands there twice
  twice : (k : ℕ) → byte ≡ k → in_front (k ∷ []) behind ≡ true → drop at text ≡ k ∷ k ∷ drop 1 behind
  twice k is again = known k is ∙ ap (λ (l : List ℕ). k ∷ l) (in_front_lem k behind again)

  two : at + 1 + 1 - at ≡ 2
  two = omega arith

  one : at + 1 - at ≡ 1
  one = omega arith

  pub dollars : {r : Lexeme} → byte ≡ 0x24 → in_front (0x24 ∷ []) behind ≡ true → Plain Token.Dollar (at + 1 + 1 - at) r → Here r
  dollars is again = by_size (ap lexeme (twice 0x24 is again) ∙ at-dollars (drop 1 behind)) (sym two)

  pub dollar : {r : Lexeme} → byte ≡ 0x24 → in_front (0x24 ∷ []) behind ≡ false → Plain Token.Dollar (at + 1 - at) r → Here r
  dollar is other = by_size (ap lexeme (known 0x24 is) ∙ at-dollar behind other) (sym one)

  pub new_line : {r : Lexeme} → byte ≡ 0x5C → in_front (0x5C ∷ []) behind ≡ true → Plain Token.NewLine (at + 1 + 1 - at) r → Here r
  new_line is again = by_size (ap lexeme (twice 0x5C is again) ∙ at-new_line (drop 1 behind)) (sym two)

  pub backslash : {r : Lexeme} → byte ≡ 0x5C → in_front (0x5C ∷ []) behind ≡ false → Stands at (command (drop at text)) r → Here r
  backslash {r} is other =
      subst (λ l. Stands at l r) (sym (ap lexeme (known 0x5C is) ∙ at-backslash behind other ∙ ap command (sym (known 0x5C is))))

  pub alone :
      (kind : ℕ) {r : Lexeme}
      → kind ≡ kind_alone byte
      → among byte alones ≡ true
      → Plain kind (at + 1 - at) r
      → Here r
  alone kind k-is is = by_size (ap lexeme first ∙ at-single behind byte is ∙ ap (λ (k : ℕ). plain k 1) (sym k-is)) (sym one)
