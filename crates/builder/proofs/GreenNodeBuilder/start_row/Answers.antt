-- The two cases of the rule, neither behind the rows.
use Rattle.builder.proofs.Laws.{at_first, at_mark}
use Rattle.builder.proofs.GreenNodeBuilder.start_row.Goals as goal

pub returns-then-at-self : goal.returns-then-at-self
returns-then-at-self c = at_first _ _ _ c.if-at-self.true c.requires.0.node

pub returns-else-at-self : goal.returns-else-at-self
returns-else-at-self c = at_mark _ _ _ c.if-at-self.false c.requires.1.row
