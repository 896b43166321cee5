-- A leaf's row stands behind the others, or nothing was done.
use Rattle.std.proofs.Common.{refl}
use Rattle.rules.proofs.Flat.{leaf-full}
use Rattle.builder.proofs.Laws.{leafed}
use Rattle.builder.proofs.GreenNodeBuilder.token.Goals as goal

pub returns-then-tree-rows : goal.returns-then-tree-rows
returns-then-tree-rows c = rw c.at.ensures (record { is = leaf-full _ _ _ c.if-tree-rows.true _; rest = refl })

pub returns : goal.returns
returns c = leafed _ _ _ c.if-tree-rows.false _ _ c.put.ensures
