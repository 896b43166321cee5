-- Each way out is one of the run's cases, and what the calls before it gave is what that case asks.
use Rattle.state.proofs.Walk.{handed}
use Rattle.cartglaze.proofs.Ways.{refused-before, readable, accepted, refused-while}
use Rattle.cartglaze.proofs.whole.run.Goals as goal

-- refused by a check
pub returns-in_err-check : goal.returns-in_err-check
returns-in_err-check c = rw (handed c.from_residual.ensures) (refused-before _ _ _ c.check.ensures c.in_err-check.was)

-- what `parse` requires
pub parse-requires : goal.parse-requires
parse-requires c = readable _ c.args.tree.now _ c.check.ensures c.in_ok-check.was

pub returns-in-Ok : goal.returns-in-Ok
returns-in-Ok c = accepted _ _ _ c.check.ensures c.in_ok-check.was c.parse.ensures c.in-Ok.is

-- refused while reading
pub returns-in-Err : goal.returns-in-Err
returns-in-Err c =
    refused-while _ _ _ c.check.ensures c.in_ok-check.was c.parse.ensures c.in-Err.is c.parse.auto.tree c.parse.auto.dropped
    c.clear.ensures c.clear-in-Err.ensures
