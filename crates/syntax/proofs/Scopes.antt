-- The scopes' numbers, and that no kind over 39 stops any scope. Assumes nothing.
use Prim.Native.Nat.{ℕ, ◌≤◌, ◌<◌}
use borrow.Author.Tests.{ltb-true, ne_eqb}
use lib.Dec.{lit<, ltb}
use mathlib.Core.Bool.{Bool, true, false, ◌&&◌, and-eq-true_iff}
use mathlib.Core.List.{List, [], ◌∷◌}
use mathlib.Core.Path.{◌≡◌, refl}
use native.Mathlib.Omega.{arith}
use Rattle.rules.specs.Limits
use Rattle.rules.specs.Scope as rules
use Rattle.syntax.specs.ParseScope.{number_of, scope_at, scope_of}
use Rattle.syntax.specs.declared.parse_scope.ParseScope.{ParseScope}
use Rattle.syntax.specs.declared.parse_scope.ParseScope.TheVariants.{Root, DollarFormula, CmdFormula, Environment, LR, CurlyItem, BracketItem, ParenItem}

-- a scope has one of eight numbers, and is that number's
pub numbered : (p : ParseScope) → (number_of p < 8) × (scope_at (number_of p) ≡ scope_of p)
numbered Root = (lit< tt, refl)
numbered DollarFormula = (lit< tt, refl)
numbered CmdFormula = (lit< tt, refl)
numbered Environment = (lit< tt, refl)
numbered LR = (lit< tt, refl)
numbered CurlyItem = (lit< tt, refl)
numbered BracketItem = (lit< tt, refl)
numbered ParenItem = (lit< tt, refl)

abbrev below : ℕ → List ℕ → Bool
below bound [] = true
below bound (k ∷ ks) = ltb k bound && below bound ks

-- a kind that is over each of a list is not among them
over : (bound kind : ℕ) (ks : List ℕ) → below bound ks ≡ true → bound ≤ kind → rules.among kind ks ≡ false
over bound kind [] t h = refl
over bound kind (k ∷ ks) t h =
    let both = (and-eq-true_iff (ltb k bound) (below bound ks)).0 t in
    let small : k < bound = ltb-true k bound both.0 in
    rw (ne_eqb kind k (λ e. omega arith)) (over bound kind ks both.1 h)

stop_kinds_lem : (s : rules.Scope) → below Limits.kinds (rules.stop_kinds s) ≡ true
stop_kinds_lem rules.Root = refl
stop_kinds_lem rules.DollarFormula = refl
stop_kinds_lem rules.CmdFormula = refl
stop_kinds_lem rules.Environment = refl
stop_kinds_lem rules.LR = refl
stop_kinds_lem rules.CurlyItem = refl
stop_kinds_lem rules.BracketItem = refl
stop_kinds_lem rules.ParenItem = refl

pub no_stop : (s : rules.Scope) (kind : ℕ) → Limits.kinds ≤ kind → rules.stops s kind ≡ false
unfolding rules.stops
no_stop s kind h = over Limits.kinds kind (rules.stop_kinds s) (stop_kinds_lem s) h
