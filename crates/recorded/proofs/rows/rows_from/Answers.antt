-- A row that differs ends the comparison; else one more row is the recorded one, and at the end all are.
use Rattle.recorded.proofs.RowByRow.{ends, stops, turns}
use Rattle.recorded.proofs.rows.rows_from.Goals as goal

pub returns-in_err-next : goal.returns-in_err-next
returns-in_err-next g c = stops g.R.Row.regular c.loop-row.invariant c.loop-row-test.true c.behind.ensures c.in_err-next.was c.from_residual.ensures

pub loop-row-preserved : goal.loop-row-preserved
loop-row-preserved g c = turns g.R.Row.regular c.loop-row.invariant c.loop-row-test.true c.behind.ensures c.in_ok-next.was

pub returns : goal.returns
returns g c = ends g.R.Row.regular c.loop-row.invariant c.loop-row-test.false
