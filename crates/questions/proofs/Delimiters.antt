-- What is asked of a token's row: of a leaf inside the text its kind and its bytes, of another row nothing. Assumes nothing.
use Prim.Native.Nat.{ℕ}
use mathlib.Core.Bool.{◌&&◌}
use mathlib.Core.List.{List, [], ◌∷◌}
use mathlib.Core.Path.{◌≡◌, refl, ap}
use lib.Dec.{eqb}
use Rattle.std.specs.Cmp.Lexicographic.{pointwise}
use Rattle.std.proofs.lemmas.Bool.Decides.{nat_tests}
use Rattle.rules.specs.Questions.{same}
use Rattle.rules.proofs.Questions.{delimiter-inside, delimiter-outside}
use Rattle.questions.proofs.Tagged.{leaf_there}

-- `==` of two slices of bytes is the rule's
pub same_is : (one other : List ℕ) → same one other ≡ pointwise eqb one other
unfolding same
same_is [] [] = refl
same_is [] (b ∷ right) = refl
same_is (a ∷ left) [] = refl
same_is (a ∷ left) (b ∷ right) = ap (λ s. eqb a b && s) (same_is left right)

pub ruleset delimiters = (leaf_there, delimiter-inside, delimiter-outside, same_is, nat_tests)
