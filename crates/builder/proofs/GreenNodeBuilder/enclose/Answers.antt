-- The part that was lent comes back with both start rows in front, and the inner node's finish row is written behind it.
use Rattle.builder.proofs.Laws.{encloses}
use Rattle.builder.proofs.GreenNodeBuilder.enclose.Goals as goal

pub returns : goal.returns
returns c = encloses _ _ _ _ _ _ _ _ c.requires.2 c.start_row-start.ensures c.insert_starts.ensures c.put.ensures
