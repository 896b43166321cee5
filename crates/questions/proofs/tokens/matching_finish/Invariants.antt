-- The finish is where the walk from `at` finds it, with `deep` nodes open there.
use Rattle.std.proofs.Common.{◌≡◌, ◌-◌, ◌≤◌, ◌<◌}
use Rattle.rules.specs.Questions.{balance, matching_finish}
use Rattle.questions.proofs.tokens.matching_finish.Given as goal

abbrev pub invariant-loop-at : goal.invariant-loop-at
invariant-loop-at l = record {
  some_open : 0 < l.deep;
  few : l.deep ≤ l.at;
  so_far : matching_finish l.tree l.row ≡ balance l.tree (l.rows - l.at) l.at l.deep;
}
