-- The node ends, and then nothing is held.
use Rattle.clauses.proofs.ArgumentNode.{end-stops, end-unholds}
use Rattle.clauses.proofs.argument.end_argument.Goals as goal

pub returns-in_err-closed : goal.returns-in_err-closed
returns-in_err-closed c s notes = end-stops _ (c.finish_node.ensures notes) c.in_err-closed.was c.from_residual.ensures s

pub returns : goal.returns
returns c s notes = end-unholds _ (c.finish_node.ensures notes) c.in_ok-closed.was c.holding_none.ensures s
