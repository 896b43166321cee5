-- A start row stands behind the others, or nothing was done.
use Rattle.std.proofs.Common.{refl}
use Rattle.rules.proofs.Flat.{start-deep, start-full}
use Rattle.builder.proofs.Laws.{started}
use Rattle.builder.proofs.GreenNodeBuilder.start_node.Goals as goal

pub returns-then-self-ge-NODES : goal.returns-then-self-ge-NODES
returns-then-self-ge-NODES c = rw c.at.ensures (record { is = start-deep _ _ _ _ c.if-self-ge-NODES.true; rest = refl })

pub returns-then-tree-rows : goal.returns-then-tree-rows
returns-then-tree-rows c =
    rw c.at-then-tree-rows.ensures
    (record { is = start-full _ _ _ c.if-tree-rows.true _ c.if-self-ge-NODES.false; rest = refl })

pub returns : goal.returns
returns c = started _ _ _ c.if-tree-rows.false _ _ c.if-self-ge-NODES.false c.put.ensures
