-- What is held is dropped, and then the node begins.
use Rattle.clauses.proofs.ArgumentNode.{ignored-begins}
use Rattle.clauses.proofs.argument.begin_argument.Goals as goal

pub returns : goal.returns
returns c = ignored-begins c.requires.1.holding c.ignore_holding_trivia-ignored.ensures c.start_node.ensures
