-- Whether all numbers of a list are one number is told by the library's test of each.
use Rattle.std.proofs.Common.{◌≡◌, ℕ, Bool, List, [], ◌∷◌, length, get_or, drop, replicate, refl, ap, ◌∙◌}
use mathlib.Core.Bool.{true≢false}
use mathlib.Core.Logic.{inl, inr}
use lib.Dec.{eqb}
use Rattle.std.specs.List.{list_all}
use Rattle.std.proofs.lemmas.Bool.Decides.{eqb_tells}
use Rattle.compare.specs.Tells.{Tells}
use Rattle.compare.proofs.Telling.{fails, tells_as}

-- whether a number is this one
abbrev pub is : ℕ → ℕ → Bool
is value n = eqb n value

pub tests_tell : (value : ℕ) (xs : List ℕ) → Tells (xs ≡ replicate (length xs) value) (list_all (is value) xs)
tests_tell value [] = record { yes = λ _. refl; no = λ e _. true≢false e }
tests_tell value (x ∷ xs) = elim (eqb_tells x value) [
  | inl h ↦ rw h.0 (tells_as (more h.1) (λ e. ap (λ (l : List ℕ). drop 1 l) e) (tests_tell value xs))
  | inr h ↦ rw h.0 (fails (differs h.1))
]
  where
    more : x ≡ value → xs ≡ replicate (length xs) value → (x ∷ xs) ≡ replicate (length (x ∷ xs)) value
    more e f = ap (λ (l : List ℕ). x ∷ l) f ∙ ap (λ (n : ℕ). n ∷ replicate (length xs) value) e

    differs : (x ≡ value → ⊥) → (x ∷ xs) ≡ replicate (length (x ∷ xs)) value → ⊥
    differs other e = other (ap (λ (l : List ℕ). get_or l 0 0) e)
