-- The walk so far, whose rule is the loop's own; each turn reads something of what is left.
use Rattle.rules.specs.Cursor.{left}
use Rattle.lexer.specs.Reading.{cursor_of}
use Rattle.routines.proofs.Eating.{Eating}
use Rattle.routines.proofs.tokens.eat_while.Given as goal

abbrev pub invariant-loop-tree : goal.invariant-loop-tree
invariant-loop-tree g l = Eating g.Q.Question.of l.tokens l.initial.now l.initial.tree l.now l.tree

abbrev pub decreases-loop-tree : goal.decreases-loop-tree
decreases-loop-tree g l = left l.tokens (cursor_of l.now.lexer)
