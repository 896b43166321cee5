-- What holds behind a rule if it goes on: how that goes through `bind`, `cond` and `steps`. A refusal is met by anything. Assumes nothing.
use Prim.Native.Nat.{ℕ}
use mathlib.Core.Path.{◌≡◌, refl}
use mathlib.Core.Bool.{Bool, true, false, cond}
use mathlib.Core.List.{List, [], ◌∷◌}
use native.Mathlib.Omega.{arith}
use Rattle.rules.specs.Outcome.{Out, went, refused, bind}
use Rattle.rules.specs.Position.{steps}

pub data Goes {X : Type 0} (Q : X → Type 0) : Out X → Type 0 where
  goes : {x : X} → Q x → Goes Q (went x)
  stopped : (number place : ℕ) → Goes Q (refused number place)

-- a rule takes what Q holds of to what P holds of
abbrev pub Takes : {X Y : Type 0} → (X → Type 0) → (Y → Type 0) → (X → Out Y) → Type 0
Takes {X} Q P f = (x : X) → Q x → Goes P (f x)

-- steps, one by one
pub data Line {X : Type 0} : (X → Type 0) → (X → Type 0) → List (X → Out X) → Type 1 where
  done : {Q : X → Type 0} → Line Q Q []
  ◌then◌ : {Q M P : X → Type 0} {f : X → Out X} {fs : List (X → Out X)} → Takes Q M f → Line M P fs → Line Q P (f ∷ fs)

infixr 20 ◌then◌
module _ {X : Type 0} {Q : X → Type 0} where
  pub bind_goes : {Y : Type 0} {P : Y → Type 0} {o : Out X} {f : X → Out Y} → Goes Q o → Takes Q P f → Goes P (bind o f)
  bind_goes (goes {x} h) k = k x h
  bind_goes (stopped number place) k = stopped number place

  pub weaker_goes : {P : X → Type 0} {o : Out X} → ((x : X) → Q x → P x) → Goes Q o → Goes P o
  weaker_goes k (goes {x} h) = goes (k x h)
  weaker_goes k (stopped number place) = stopped number place

  pub cond_goes : (t : Bool) {x y : Out X} → (t ≡ true → Goes Q x) → (t ≡ false → Goes Q y) → Goes Q (cond t x y)
  cond_goes true met missed = met refl
  cond_goes false met missed = missed refl

  -- of a rule that is known to go on
  pub went_goes : {o : Out X} {x : X} → Goes Q o → o ≡ went x → Q x
  went_goes {x} (goes {x = y} h) e = let same : y ≡ x = cc in rw same at h
  went_goes (stopped number place) e = let z : ◌≡◌ {A = ℕ} 0 1 = cc in absurd (omega arith)

-- it makes this, if it goes on
abbrev pub Makes : {X : Type 0} → X → Out X → Type 0
Makes x o = Goes (λ y. y ≡ x) o

module _ {X : Type 0} {x : X} {o : Out X} where
  pub makes_goes : {Q : X → Type 0} → Makes x o → Q x → Goes Q o
  makes_goes {Q} makes h = weaker_goes (λ y e. rw e h) makes

  -- and what comes behind it goes on from there
  pub makes_then : {Y : Type 0} {P : Y → Type 0} → Makes x o → (f : X → Out Y) → Goes P (f x) → Goes P (bind o f)
  makes_then makes f h = bind_goes makes (λ y e. rw e h)

pub steps-go : {X : Type 0} {Q P : X → Type 0} {fs : List (X → Out X)} → Line Q P fs → Takes Q P (steps fs)
unfolding steps
steps-go done x h = goes h
steps-go (k then rest) x h = bind_goes (k x h) (steps-go rest)

-- the same from a given position, of which later steps may speak
pub data From {X : Type 0} (P : X → Type 0) : List (X → Out X) → X → Type 1 where
  ◌first◌ : {M : X → Type 0} {f : X → Out X} {fs : List (X → Out X)} {x : X} → Goes M (f x) → Line M P fs → From P (f ∷ fs) x

infixr 20 ◌first◌
pub from_goes : {X : Type 0} {P : X → Type 0} {fs : List (X → Out X)} {x : X} → From P fs x → Goes P (steps fs x)
unfolding steps
from_goes (h first rest) = bind_goes h (steps-go rest)
