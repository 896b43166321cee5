-- The loop eats what is of the body: the walk so far, and the numbers that are left to read.
use Rattle.rules.specs.Cursor.{left}
use Rattle.lexer.specs.Reading.{cursor_of}
use Rattle.skipped.proofs.Skipping.{Skipping}
use Rattle.skipped.proofs.eat_body_of_ifs.Given as goal

abbrev pub invariant-loop-nested : goal.invariant-loop-nested
invariant-loop-nested l = Skipping l.tokens l.initial.now l.initial.tree l.dropped l.nested l.now l.tree

abbrev pub decreases-loop-nested : goal.decreases-loop-nested
decreases-loop-nested l = left l.tokens (cursor_of l.now.lexer)
