-- Level 0 is never reached: `parse` reads items below the root at level 128, and at any level from there on a run over the flat builder is the same,
-- whatever is read and whatever the room. An item is read at level d only where so many nodes are open that 129 are reached with d more; the builder
-- refuses the 129th, so d is at least 1. The law of two rooms and two levels (Room.antt), with one room, says it. Assumes nothing.
use Prim.Native.Nat.{ℕ, ◌+◌}
use mathlib.Core.Path.{◌≡◌, refl, ap}
use native.Mathlib.Omega.{arith}
use Rattle.rules.specs.Flat.{flat, empty}
use Rattle.rules.specs.Limits
use Rattle.rules.specs.Outcome.{Out, went}
use Rattle.rules.specs.Position.{Source}
use Rattle.rules.specs.Reading.{parse_at, parse}
use Rattle.rules.proofs.Related.{OutRel, went~, refused~, skipped~}
use Rattle.rules.proofs.Room.{Place, Full, Any, more-room_at}

-- with one room nothing is skipped
same_outcome : {room : ℕ} {o u : Out Place} → OutRel (Full room room) Any (λ (p q : Place). p ≡ q) o u → o ≡ u
same_outcome (went~ e) = ap went e
same_outcome (refused~ number place any) = refl
same_outcome (skipped~ number place o full) = let smaller = full.smaller in absurd (omega arith)

module _ (room : ℕ) (source : Source) where
  pub any_level : (d : ℕ) → parse_at (flat room) source (Limits.nodes + d) empty ≡ parse (flat room) source empty
  unfolding parse
  any_level d = same_outcome (more-room_at room room (omega arith) source (Limits.nodes + d) Limits.nodes (omega arith) (omega arith))
