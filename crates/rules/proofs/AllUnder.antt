-- Numbers that are all under another, ASCII bytes or any bytes: if each place says so, the whole list does, and so do its parts. Assumes nothing.
use Prim.Native.Nat.{ℕ, zero, suc, ◌<◌}
use mathlib.Core.List.{List, [], ◌∷◌}
use native.Mathlib.Omega.{arith}
use lib.ListN.{length, get_or, take, drop}

pub data AllUnder (n : ℕ) : List ℕ → Type 0 where
  nothing : AllUnder n []
  under : {x : ℕ} {xs : List ℕ} → x < n → AllUnder n xs → AllUnder n (x ∷ xs)

pub by_place : (n : ℕ) (xs : List ℕ) → ((i : ℕ) → i < length xs → get_or xs i 0 < n) → AllUnder n xs
by_place n [] each = nothing
by_place n (x ∷ xs) each = under (each 0 (omega arith)) (by_place n xs (λ i there. each (suc i) (omega arith)))

module _ {n : ℕ} where
  pub under_drop : (k : ℕ) {xs : List ℕ} → AllUnder n xs → AllUnder n (drop k xs)
  under_drop zero all = all
  under_drop (suc k) nothing = nothing
  under_drop (suc k) (under x rest) = under_drop k rest

  pub under_take : (k : ℕ) {xs : List ℕ} → AllUnder n xs → AllUnder n (take k xs)
  under_take zero all = nothing
  under_take (suc k) nothing = nothing
  under_take (suc k) (under x rest) = under x (under_take k rest)
