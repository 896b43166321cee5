-- The rule goes by cases on the mark too.
use Rattle.rules.specs.Routines.{start_around}
use Rattle.clauses.proofs.start_around.Goals as goal

pub returns-in_default : goal.returns-in_default
unfolding start_around
returns-in_default c s notes = rw c.in_default.is (c.start_node.ensures notes)

pub returns : goal.returns
unfolding start_around
returns c s notes = rw c.in-Some.is (c.wrap.ensures notes)
