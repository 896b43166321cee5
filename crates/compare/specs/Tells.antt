-- Answers that are given exactly where something holds.
use Rattle.std.specs.Prelude.{ℕ, ◌-◌, Bool, true, false, List, ◌≡◌, length, drop, replicate}

-- yes where it holds, and no where it does not
pub record Tells (P : Type 0) (r : Bool) : Type 0 where
  pub yes : r ≡ true → P
  pub no : r ≡ false → P → ⊥

-- all numbers of a buffer from one on are this one
abbrev pub AllFrom : List ℕ → ℕ → ℕ → Type 0
AllFrom buffer from value = drop from buffer ≡ replicate (length buffer - from) value
