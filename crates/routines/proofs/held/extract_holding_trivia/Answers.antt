-- Each turn makes a leaf of the next held token.
use Rattle.std.proofs.Common.{ap, ◌∙◌}
use Rattle.rules.specs.Kinds.{leaf_kind}
use Rattle.routines.proofs.Leaves.{small_token}
use Rattle.routines.proofs.HeldLaws.{extracting_goes_on, extracting_stops, extracting_ends}
use Rattle.routines.proofs.held.extract_holding_trivia.Goals as goal

pub returns-in_err-now : goal.returns-in_err-now
returns-in_err-now c =
    let kind = c.number-kind.ensures ∙ c.from_token.ensures ∙ ap leaf_kind c.cell.ensures in
    extracting_stops _ _ _ c.loop-token.invariant c.loop-token-test.true (small_token c.requires)
    kind c.cell-start.ensures c.cell-size.ensures c.leaf_of.ensures c.in_err-now.was c.from_residual.ensures

pub loop-token-preserved : goal.loop-token-preserved
loop-token-preserved c =
    let kind = c.number-kind.ensures ∙ c.from_token.ensures ∙ ap leaf_kind c.cell.ensures in
    extracting_goes_on _ _ _ c.loop-token.invariant c.loop-token-test.true (small_token c.requires)
    kind c.cell-start.ensures c.cell-size.ensures c.leaf_of.ensures c.leaf_of.auto.tree c.in_ok-now.was

pub returns : goal.returns
returns c = extracting_ends _ _ _ c.loop-token.invariant c.loop-token-test.false c.holding_none.ensures
