-- The tokens of a text, one behind the other: however many may be asked for, there are as many as the text has; the first, and then those of what is
-- left behind it. Assumes nothing.
use Prim.Native.Nat.{ℕ, zero, suc, ◌+◌, ◌-◌, ◌≤◌, ◌<◌}
use mathlib.Core.Path.{◌≡◌, refl, sym, ap, subst, ◌∙◌}
use mathlib.Core.List.{List, [], ◌∷◌}
use native.Mathlib.Omega.{arith}
use lib.ListN.{length, get_or, drop, length-drop, drop_of_length-le}
use lib.Seq.{drop-cons, drop-drop}
use Rattle.rules.specs.Tokeniser.{Lexeme, lexeme, lexemes, tokens_of}
use Rattle.rules.proofs.LexemeSizes.{Sized, sized}

any_most : (m n : ℕ) (left : List ℕ) → length left ≤ m → length left ≤ n → lexemes m left ≡ lexemes n left
unfolding lexemes
any_most zero zero left h k = refl
any_most zero (suc n) [] h k = refl
any_most zero (suc n) (byte ∷ left) h k = absurd (omega arith)
any_most (suc m) zero [] h k = refl
any_most (suc m) zero (byte ∷ left) h k = absurd (omega arith)
any_most (suc m) (suc n) [] h k = refl
any_most (suc m) (suc n) (byte ∷ left) h k =
    let token = lexeme (byte ∷ left) in
    let size = sized left byte in
    let shorter = length-drop token.size (byte ∷ left) in
    ap (λ (more : List Lexeme). token ∷ more)
    (any_most m n (drop token.size (byte ∷ left)) (omega (arith, size.some, shorter)) (omega (arith, size.some, shorter)))

pub no_token : tokens_of [] ≡ []
unfolding lexemes
no_token = refl

pub first-token : (byte : ℕ) (left : List ℕ)
    → tokens_of (byte ∷ left) ≡ lexeme (byte ∷ left) ∷ tokens_of (drop (lexeme (byte ∷ left)).size (byte ∷ left))
unfolding lexemes
first-token byte left =
    let token = lexeme (byte ∷ left) in
    let rest = drop token.size (byte ∷ left) in
    let shorter = length-drop token.size (byte ∷ left) in
    ap (λ (more : List Lexeme). token ∷ more)
    (any_most (length left) (length rest) rest (omega (arith, (sized left byte).some, shorter)) (omega arith))

-- there are no more tokens than bytes
few_from : (most : ℕ) (left : List ℕ) → length (lexemes most left) ≤ length left
unfolding lexemes
few_from zero left = omega arith
few_from (suc most) [] = omega arith
few_from (suc most) (byte ∷ left) =
    let size = (lexeme (byte ∷ left)).size in
    omega (arith, few_from most (drop size (byte ∷ left)), length-drop size (byte ∷ left), (sized left byte).some)

pub tokens-few : (text : List ℕ) → length (tokens_of text) ≤ length text
tokens-few text = few_from (length text) text

-- ---- what is left at a place of a text
module _ (text : List ℕ) (at : ℕ) (here : at < length text) where
  abbrev pub token : Lexeme
  token = lexeme (drop at text)

  pub first : drop at text ≡ get_or text at 0 ∷ drop (suc at) text
  first = drop-cons text at 0 here

  pub size_at : Sized token (length text - at)
  size_at =
      let room : suc (length (drop (suc at) text)) ≡ length text - at = omega (arith, ap length first, length-drop at text) in
      subst (λ n. Sized token n) room
      (subst (λ l. Sized (lexeme l) (suc (length (drop (suc at) text)))) (sym first) (sized (drop (suc at) text) (get_or text at 0)))

  pub tokens-at : tokens_of (drop at text) ≡ token ∷ tokens_of (drop (at + token.size) text)
  tokens-at =
      ap tokens_of first
      ∙ first-token (get_or text at 0) (drop (suc at) text)
      ∙ ap (λ (l : List ℕ). lexeme l ∷ tokens_of (drop (lexeme l).size l)) (sym first)
      ∙ ap (λ (l : List ℕ). token ∷ tokens_of l) (drop-drop token.size at text)

pub none_left : (text : List ℕ) (at : ℕ) → length text ≤ at → tokens_of (drop at text) ≡ []
none_left text at past = ap tokens_of (drop_of_length-le text past) ∙ no_token
