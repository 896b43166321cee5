-- A finish row stands behind the others, or nothing was done.
use Rattle.std.proofs.Common.{refl}
use Rattle.rules.proofs.Flat.{finish-full}
use Rattle.builder.proofs.Laws.{finished}
use Rattle.builder.proofs.GreenNodeBuilder.finish_node.Goals as goal

pub returns-then-tree-rows : goal.returns-then-tree-rows
returns-then-tree-rows c = rw c.at.ensures (record { is = finish-full _ _ _ c.if-tree-rows.true _ _; rest = refl })

pub returns : goal.returns
returns c = finished _ _ _ c.if-tree-rows.false _ _ _ c.put.ensures
