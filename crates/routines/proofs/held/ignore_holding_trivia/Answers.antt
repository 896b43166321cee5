-- Each turn drops the next held token, and as many rows are counted.
use Rattle.routines.proofs.HeldLaws.{dropping-goes_on, dropping-ends}
use Rattle.routines.proofs.held.ignore_holding_trivia.Goals as goal

pub loop-token-preserved : goal.loop-token-preserved
loop-token-preserved c =
    dropping-goes_on _ _ c.requires c.loop-token.invariant c.loop-token-test.true c.drop_token.auto.dropped c.drop_token.ensures

pub returns : goal.returns
returns c = dropping-ends _ _ c.requires c.loop-token.invariant c.loop-token-test.false c.holding_none-next.ensures
