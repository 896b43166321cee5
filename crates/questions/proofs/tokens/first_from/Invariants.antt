-- From `at` on the first token is the one from the start on.
use Rattle.std.proofs.Common.{◌≡◌, ◌-◌}
use Rattle.rules.specs.Questions.{first_from}
use Rattle.questions.proofs.tokens.first_from.Given as goal

abbrev pub invariant-loop-at : goal.invariant-loop-at
invariant-loop-at l = first_from l.tree (l.to - l.from) l.from ≡ first_from l.tree (l.to - l.at) l.at
