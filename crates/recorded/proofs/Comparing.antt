-- The two answers of a comparison, each where its contract is met. Assumes nothing.
use Prim.Native.Nat.{ℕ}
use mathlib.Core.Path.{◌≡◌, refl, sym, ◌∙◌}
use Rattle.recorded.specs.Compared.{Compares}
use Rattle.std.specs.Prelude.{Option, Some, None}

same_place : (n m : ℕ) → ◌≡◌ {A = Option ℕ} (Some n) (Some m) → n ≡ m
same_place n m e = cc

same_differs : {n : ℕ} → ◌≡◌ {A = Option ℕ} (Some n) None → ⊥
same_differs e = cc

module _ {end : ℕ} {P : Type 0} where
  pub is_same : {next : ℕ} → next ≡ end → P → Compares end P (Some next)
  is_same {next} e p = record { same = λ n is. (sym (same_place next n is) ∙ e, p); differs = λ is. absurd (same_differs is) }

  pub is_other : (P → ⊥) → Compares end P None
  is_other none = record { same = λ n is. absurd (same_differs (sym is)); differs = λ _. none }

  -- where it holds, the place is answered
  -- where it holds, the place is answered
  pub found : (r : Option ℕ) → Compares end P r → P → r ≡ Some end
  found (Some n) k p = let here = (k.same n refl).0 in rw here
  found None k p = absurd (k.differs refl p)
