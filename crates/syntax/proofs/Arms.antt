-- What the `_` of a `match` on a number tells: the number is no arm's key, so that a test of it against a key fails. (Numbers next to each
-- other in one arm would be a range and no keys, so such an arm is written as two.) Assumes nothing.
use Prim.Native.Nat.{ℕ}
use borrow.Author.Tests.{eqb-true}
use lib.Dec.{T, eqb}
use mathlib.Core.Bool.{Bool, true, false, not, ◌&&◌, ◌||◌, and-false}
use mathlib.Core.List.{List, [], ◌∷◌}
use mathlib.Core.Path.{◌≡◌, refl, sym, subst}
use mir.Val.{has_key}
use types.Run.{OneOf, hit}
use Rattle.rules.proofs.Characters.{either}

-- a number of which a test holds is none of which it doesn't
known : (test : ℕ → Bool) (x : ℕ) → test x ≡ true → (k : ℕ) → eqb x k ≡ (test k && eqb x k)
known test x h k = either (eqb x k) (λ t. rw (← eqb-true x k t, h)) (λ f. rw (f, and-false))

-- whether a number is a key of one of the arms
abbrev pub keyed : List (List ℕ) → ℕ → Bool
keyed [] k = false
keyed (keys ∷ arms) k = has_key keys k || keyed arms k

module _ (x : ℕ) where
  -- the type of `c.match.rest`, by the arms' keys
  abbrev pub Rest : Type 0 → List (List ℕ) → Type 0
  Rest before [] = before
  Rest before (keys ∷ arms) = Rest (before × (OneOf keys x → ⊥)) arms

  free : (keys : List ℕ) → (OneOf keys x → ⊥) → has_key keys x ≡ false
  free keys h = either (has_key keys x) (λ t. absurd (h (hit keys x (subst T (sym t) tt)))) (λ f. f)

  unkeyed : (before : Type 0) (arms : List (List ℕ)) → Rest before arms → before × (keyed arms x ≡ false)
  unkeyed before [] rest = (rest, refl)
  unkeyed before (keys ∷ arms) rest =
      let h = unkeyed (before × (OneOf keys x → ⊥)) arms rest in
      (h.0.0, rw (free keys h.0.1, h.1))

  pub no_key : (arms : List (List ℕ)) → Rest Unit arms → (k : ℕ) → eqb x k ≡ (not (keyed arms k) && eqb x k)
  no_key arms rest = known (λ k. not (keyed arms k)) x (rw (unkeyed Unit arms rest).1)
