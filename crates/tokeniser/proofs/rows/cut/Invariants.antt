-- The tokens counted so far and those of what is left are all, and so are their rows.
use Rattle.std.proofs.Common.{◌-◌, length}
use Rattle.tokeniser.proofs.Cutting.{Went}
use Rattle.tokeniser.proofs.rows.cut.Given as goal

abbrev pub invariant-loop-at : goal.invariant-loop-at
invariant-loop-at l = Went l.text l.fn.rows l.rows l.at l.row

abbrev pub decreases-loop-at : goal.decreases-loop-at
decreases-loop-at l = length l.text - l.at
