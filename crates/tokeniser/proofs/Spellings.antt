-- A name is spelled by some bytes exactly when it is these bytes; and its kind by its bytes, with the names that begin a test asked for at once: in
-- the rules' order, and in the code's, where they come last. Assumes nothing.
use Prim.Native.Nat.{ℕ}
use Prim.Native.String.{String}
use mathlib.Core.Bool.{Bool, true, false, cond, ◌||◌, true≢false}
use mathlib.Core.List.{List, [], ◌∷◌}
use mathlib.Core.Path.{◌≡◌, refl, ap, subst, ◌∙◌}
use lib.Dec.{eqb, eqb-suc-suc, eqb-suc-zero}
use lib.ListN.{length}
use lib.Pointwise.{pointwise}
use Rattle.rules.specs.Commands.{spelled, kind_of}
use Rattle.rules.specs.Notation.{bytes}
use Rattle.rules.specs.Token
use Rattle.rules.proofs.Characters.{either}
use Rattle.rules.proofs.Spellings.{spelled_is as spelled_alike}

pub spelled_is : (these name : List ℕ) → spelled these name ≡ pointwise eqb name these
unfolding spelled
spelled_is [] [] = refl
spelled_is [] (x ∷ name) = rw (eqb-suc-zero (length name))
spelled_is (byte ∷ these) [] = refl
spelled_is (byte ∷ these) (x ∷ name) =
    either (eqb x byte)
    (λ t. rw (t, eqb-suc-suc (length name) (length these)) (spelled_is these name))
    (λ f. rw f)

pub either_or : (a b : Bool) (x y : ℕ) → cond (a || b) x y ≡ cond a x (cond b x y)
either_or true b x y = refl
either_or false b x y = refl

abbrev ifs : List String
ifs =
    "if" ∷ "iftrue" ∷ "ifcase" ∷ "ifnum" ∷ "ifcat" ∷ "ifx" ∷ "ifvoid" ∷ "ifhbox" ∷ "ifvbox" ∷ "ifhmode"
    ∷ "ifmmode" ∷ "ifvmode" ∷ "ifinner" ∷ "ifdim" ∷ "ifeof" ∷ "ifstar" ∷ []

abbrev among : List String → List ℕ → Bool
among [] name = false
among (these ∷ more) name = spelled (bytes these) name || among more name

-- the names that the rules and the code both ask for first; then the others, in the rules' order and in the code's
abbrev before_the_rest : List ℕ → ℕ → ℕ
before_the_rest name rest =
    cond (spelled (bytes "") name) Token.Error
    (cond (spelled (bytes "(") name || spelled (bytes "[") name) Token.BeginMath
    (cond (spelled (bytes ")") name || spelled (bytes "]") name) Token.EndMath
    (cond (spelled (bytes "iffalse") name) Token.IfFalse
    (cond (spelled (bytes "iftypst") name) Token.IfTypst
    (cond (spelled (bytes "else") name) Token.Else
    (cond (spelled (bytes "fi") name) Token.EndIf
    (cond (spelled (bytes "left") name) Token.Left
    (cond (spelled (bytes "right") name) Token.Right rest))))))))

abbrev in_the_rules : List ℕ → ℕ
in_the_rules name =
    cond (among ifs name) Token.If
    (cond (spelled (bytes "begin") name) Token.ErrorBeginEnvironment
    (cond (spelled (bytes "end") name) Token.ErrorEndEnvironment Token.Generic))

abbrev in_the_code : List ℕ → ℕ
in_the_code name =
    cond (spelled (bytes "begin") name) Token.ErrorBeginEnvironment
    (cond (spelled (bytes "end") name) Token.ErrorEndEnvironment
    (cond (among ifs name) Token.If Token.Generic))

-- the kind by the bytes, in the rules' order
abbrev pub by_bytes : List ℕ → ℕ
by_bytes name = before_the_rest name (in_the_rules name)

pub kind_is : (name : List ℕ) → kind_of name ≡ by_bytes name
unfolding kind_of
kind_is name = simp either_or

-- of two tests that never both hold, either may come first
swap : (a b : Bool) (x y z : ℕ) → (b ≡ true → a ≡ false) → cond a x (cond b y z) ≡ cond b y (cond a x z)
swap true true x y z apart = absurd (true≢false (apart refl))
swap true false x y z apart = refl
swap false b x y z apart = refl

no_test : (these name : List ℕ) → among ifs these ≡ false → spelled these name ≡ true → among ifs name ≡ false
no_test these name other same = subst (λ (l : List ℕ). among ifs l ≡ false) (spelled_alike these name same) other

rest_is : (name : List ℕ) → in_the_rules name ≡ in_the_code name
unfolding spelled
rest_is name =
    swap _ _ _ _ _ (no_test (bytes "begin") name refl)
    ∙ ap (λ (n : ℕ). cond (spelled (bytes "begin") name) Token.ErrorBeginEnvironment n) (swap _ _ _ _ _ (no_test (bytes "end") name refl))

-- the kind by the bytes, in the code's order
abbrev pub by_bytes_in_code : List ℕ → ℕ
by_bytes_in_code name = before_the_rest name (in_the_code name)

pub kind_in_code : (name : List ℕ) → kind_of name ≡ by_bytes_in_code name
kind_in_code name = kind_is name ∙ ap (before_the_rest name) (rest_is name)

pub ruleset kinds = (kind_in_code, spelled_is)
