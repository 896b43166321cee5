-- A search over rows for the first that is not right answers as the rule does. Assumes nothing.
use Prim.Native.Nat.{ℕ, zero, suc, ◌+◌, ◌≤◌, ◌<◌}
use mathlib.Core.Bool.{Bool, true, false}
use mathlib.Core.Path.{◌≡◌}
use native.Mathlib.Omega.{arith}
use Rattle.std.specs.Prelude.{Option, None as none, Some as some, MatchOption}
use Rattle.rules.specs.Checks.{first_bad}
use Rattle.rules.proofs.Checks.{Passed, none_passed, passes, found, all_passed}

module _ (right : ℕ → Bool) (count : ℕ) where
  abbrev RightBefore : ℕ → Type 0
  RightBefore row = (k : ℕ) → 0 ≤ k → k < row → right k ≡ true

  passed : (row : ℕ) → row ≤ count → RightBefore row → Passed right count row
  passed zero few met = none_passed right count
  passed (suc row) few met =
      let next : suc row ≡ row + 1 = omega arith in
      rw next (passes (passed row (omega arith) (λ k low high. met k low (omega arith))) (omega arith) (met row (omega arith) (omega arith)))

  -- where `find` over the rows finds none, or one
  pub first : (r : Option ℕ)
      → MatchOption r (RightBefore count) (λ row. (0 ≤ row) × (row < count) × (right row ≡ false) × RightBefore row)
      → first_bad right count 0 ≡ r
  first none met = all_passed (passed count (omega arith) met) (omega arith)
  first (some row) (low, there, bad, met) = found (passed row (omega arith) met) there bad
