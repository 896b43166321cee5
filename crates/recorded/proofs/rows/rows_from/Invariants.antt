-- The loop's invariant: the rows before `row` are the recorded ones, and those that are left are recorded from `next` on.
use Rattle.recorded.proofs.RowByRow.{Upto}
use Rattle.recorded.proofs.rows.rows_from.Given as goal

abbrev pub invariant-loop-row : goal.invariant-loop-row
invariant-loop-row g l = Upto g.R.Row.form l.case l.at l.rows l.count l.next l.row
