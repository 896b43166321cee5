-- Bytes begin with one of each range in turn where there are enough of them and each lies in its range. Assumes nothing.
use Prim.Native.Nat.{ℕ, ◌≤◌, ◌<◌}
use mathlib.Core.Bool.{false, and-false}
use mathlib.Core.List.{List, [], ◌∷◌}
use mathlib.Core.Path.{◌≡◌, refl}
use native.Mathlib.Omega.{arith}
use lib.ListN.{length}
use Rattle.std.specs.List.{list_all, zip}
use Rattle.rules.specs.Characters.{Range, within, begins}

pub pairs : (ranges : List Range) (bytes : List ℕ) → length ranges ≤ length bytes
    → list_all (λ (p : Range × ℕ). within p.0 p.1) (zip ranges bytes) ≡ begins ranges bytes
pairs [] bytes few = refl
pairs (r ∷ ranges) [] few = absurd (omega arith)
pairs (r ∷ ranges) (byte ∷ bytes) few = rw (pairs ranges bytes (omega arith))

pub too_few : (ranges : List Range) (bytes : List ℕ) → length bytes < length ranges → begins ranges bytes ≡ false
too_few [] bytes few = absurd (omega arith)
too_few (r ∷ ranges) [] few = refl
too_few (r ∷ ranges) (byte ∷ bytes) few = rw (too_few ranges bytes (omega arith), and-false)
