-- Before `at` the last token is the one before the end that was asked for.
use Rattle.std.proofs.Common.{◌≡◌}
use Rattle.rules.specs.Questions.{last_before}
use Rattle.questions.proofs.tokens.last_before.Given as goal

abbrev pub invariant-loop-at : goal.invariant-loop-at
invariant-loop-at l = last_before l.tree l.to ≡ last_before l.tree l.at
