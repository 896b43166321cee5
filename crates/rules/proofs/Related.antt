-- Runs over two builders side by side: when two outcomes are related, and how that goes through `bind`, `cond` and `steps`. A refusal is met by the
-- same refusal, whose number is one that may come (`May`); one in `Skip` on the first side, which only the first builder knows, is met by anything.
-- Assumes nothing.
use Prim.Native.Nat.{ℕ}
use mathlib.Core.Path.{◌≡◌, refl}
use mathlib.Core.Bool.{Bool, true, false, cond, true≢false, false≢true}
use mathlib.Core.List.{List, [], ◌∷◌}
use Rattle.rules.specs.Outcome.{Out, went, refused, bind}
use Rattle.rules.specs.Position.{steps}

abbrev pub Relation : Type 0 → Type 0 → Type 1
Relation X Y = X → Y → Type 0

-- a step, as those of a rule
abbrev pub Step : Type 0 → Type 0
Step X = X → Out X

module _ (Skip May : ℕ → Type 0) where
  pub data OutRel {X Y : Type 0} (Q : Relation X Y) : Out X → Out Y → Type 0 where
    went~ : {x : X} {y : Y} → Q x y → OutRel Q (went x) (went y)
    refused~ : (number place : ℕ) → May number → OutRel Q (refused number place) (refused number place)
    skipped~ : (number place : ℕ) (o : Out Y) → Skip number → OutRel Q (refused number place) o

  -- two rules take what Q relates to what P relates
  abbrev pub Keeps : {X Y X' Y' : Type 0} → Relation X Y → Relation X' Y' → (X → Out X') → (Y → Out Y') → Type 0
  Keeps {X} {Y} Q P f g = (p : X) (q : Y) → Q p q → OutRel P (f p) (g q)

  -- steps, pair by pair
  pub data Steps {X Y : Type 0} : Relation X Y → Relation X Y → List (Step X) → List (Step Y) → Type 1 where
    done~ : {Q : Relation X Y} → Steps Q Q [] []
    ◌⨾◌ : {Q M P : Relation X Y} {f : Step X} {g : Step Y} {fs : List (Step X)} {gs : List (Step Y)}
        → Keeps Q M f g
        → Steps M P fs gs
        → Steps Q P (f ∷ fs) (g ∷ gs)

  -- the same from two given positions, of which later steps may speak; first steps may be known to go on
  pub data From {X Y : Type 0} (P : Relation X Y) : List (Step X) → List (Step Y) → X → Y → Type 1 where
    goes : {f : Step X} {g : Step Y} {fs : List (Step X)} {gs : List (Step Y)} {p p' : X} {q q' : Y}
        → f p ≡ went p'
        → g q ≡ went q'
        → From P fs gs p' q'
        → From P (f ∷ fs) (g ∷ gs) p q
    ◌▸◌ : {M : Relation X Y} {f : Step X} {g : Step Y} {fs : List (Step X)} {gs : List (Step Y)} {p : X} {q : Y}
        → OutRel M (f p) (g q)
        → Steps M P fs gs
        → From P (f ∷ fs) (g ∷ gs) p q

infixr 20 ◌⨾◌
infixr 20 ◌▸◌
module _ {Skip May : ℕ → Type 0} {X Y : Type 0} {Q : Relation X Y} where
  pub bind~ : {X' Y' : Type 0} {P : Relation X' Y'} {o : Out X} {u : Out Y} {f : X → Out X'} {g : Y → Out Y'}
      → OutRel Skip May Q o u
      → Keeps Skip May Q P f g
      → OutRel Skip May P (bind o f) (bind u g)
  bind~ (went~ {x} {y} h) k = k x y h
  bind~ (refused~ number place may) k = refused~ number place may
  bind~ {g} (skipped~ number place o skip) k = skipped~ number place (bind o g) skip

  pub weaker~ : {P : Relation X Y} {o : Out X} {u : Out Y} → ((x : X) (y : Y) → Q x y → P x y) → OutRel Skip May Q o u → OutRel Skip May P o u
  weaker~ k (went~ {x} {y} h) = went~ (k x y h)
  weaker~ k (refused~ number place may) = refused~ number place may
  weaker~ k (skipped~ number place o skip) = skipped~ number place o skip

  pub cond~ : (t : Bool) {x x' : Out X} {y y' : Out Y}
      → (t ≡ true → OutRel Skip May Q x y)
      → (t ≡ false → OutRel Skip May Q x' y')
      → OutRel Skip May Q (cond t x x') (cond t y y')
  cond~ true met missed = met refl
  cond~ false met missed = missed refl

  -- a test that refuses on both sides alike
  pub gate~ : {x : Out X} {y : Out Y} (number place : ℕ) (s t : Bool)
      → May number
      → s ≡ t
      → (s ≡ false → OutRel Skip May Q x y)
      → OutRel Skip May Q (cond s (refused number place) x) (cond t (refused number place) y)
  gate~ number place true true may e go = refused~ number place may
  gate~ number place false false may e go = go refl
  gate~ number place true false may e go = absurd (true≢false e)
  gate~ number place false true may e go = absurd (false≢true e)

  -- one that the first side alone makes
  pub first~ : {x : Out X} {y : Out Y} (number place : ℕ) (t : Bool)
      → Skip number
      → OutRel Skip May Q x y
      → OutRel Skip May Q (cond t (refused number place) x) y
  first~ number place true skip h = skipped~ number place _ skip
  first~ number place false skip h = h

module _ {Skip May : ℕ → Type 0} {X Y : Type 0} where
  pub steps~ : {Q P : Relation X Y} {fs : List (Step X)} {gs : List (Step Y)} → Steps Skip May Q P fs gs → Keeps Skip May Q P (steps fs) (steps gs)
  unfolding steps
  steps~ done~ p q h = went~ h
  steps~ (k ⨾ rest) p q h = bind~ (k p q h) (steps~ rest)

  pub from~ : {P : Relation X Y} {fs : List (Step X)} {gs : List (Step Y)} {p : X} {q : Y}
      → From Skip May P fs gs p q
      → OutRel Skip May P (steps fs p) (steps gs q)
  unfolding steps
  from~ (goes e d rest) = rw (e, d) (from~ rest)
  from~ (h ▸ rest) = bind~ h (steps~ rest)
