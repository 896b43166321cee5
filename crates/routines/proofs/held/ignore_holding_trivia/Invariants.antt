-- So far all held tokens before the next one are dropped.
use Rattle.routines.proofs.HeldLaws.{Dropping}
use Rattle.routines.proofs.held.ignore_holding_trivia.Given as goal

abbrev pub invariant-loop-token : goal.invariant-loop-token
invariant-loop-token l = Dropping l.p l.initial.dropped l.dropped l.token l.count
