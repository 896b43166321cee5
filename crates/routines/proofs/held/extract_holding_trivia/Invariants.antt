-- So far all held tokens before the next one are leaves.
use Rattle.routines.proofs.HeldLaws.{Extracting}
use Rattle.routines.proofs.held.extract_holding_trivia.Given as goal

abbrev pub invariant-loop-token : goal.invariant-loop-token
invariant-loop-token l = Extracting l.tokens l.fn.p l.initial.tree l.tree l.now l.token
