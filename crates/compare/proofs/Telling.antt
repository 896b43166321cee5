-- Laws of answers that are given exactly where something holds; such a contract fixes the answer. Assumes nothing.
use mathlib.Core.Bool.{Bool, true, false, false≢true}
use mathlib.Core.Path.{◌≡◌, refl, sym, ◌∙◌}
use Rattle.std.specs.Bool.{Decides}
use Rattle.compare.specs.Tells.{Tells}

pub fails : {P : Type 0} → (P → ⊥) → Tells P false
fails none = record { yes = λ e. absurd (false≢true e); no = λ _. none }

pub decides : {P : Type 0} {r : Bool} → Decides r P → Tells P r
decides k = record { yes = k.0; no = λ e p. absurd (false≢true (sym e ∙ k.1 p)) }

-- the same answer tells of what holds exactly where this does
pub tells_as : {P Q : Type 0} {r : Bool} → (P → Q) → (Q → P) → Tells P r → Tells Q r
tells_as to from t = record { yes = λ e. to (t.yes e); no = λ e q. t.no e (from q) }

-- two answers that tell of the same are the same
pub only : {P : Type 0} (r s : Bool) → Tells P r → Tells P s → r ≡ s
only true true t u = refl
only true false t u = absurd (u.no refl (t.yes refl))
only false true t u = absurd (t.no refl (u.yes refl))
only false false t u = refl
