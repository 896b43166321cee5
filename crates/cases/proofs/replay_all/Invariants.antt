-- Each turn counts a case, and no count passes that of the cases.
use Rattle.std.proofs.Common.{◌≡◌}
use Rattle.replay.specs.Tallied.{Tallies}
use Rattle.cases.proofs.replay_all.Given as goal

abbrev pub invariant-loop : goal.invariant-loop
invariant-loop g l = (l.tally.cases ≡ l.counter) × Tallies l.tally
