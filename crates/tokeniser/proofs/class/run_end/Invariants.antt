-- The run which began at `from` goes on at `at`.
use Rattle.std.proofs.Common.{◌≡◌, ◌+◌, drop}
use Rattle.rules.specs.Patterns.{run}
use Rattle.tokeniser.specs.Bytes.{class_of}
use Rattle.tokeniser.proofs.class.run_end.Given as goal

abbrev pub invariant-loop-at : goal.invariant-loop-at
invariant-loop-at l = l.from + run (class_of l.class) (drop l.from l.text) ≡ l.at + run (class_of l.class) (drop l.at l.text)
