-- All that can refuse a wrap is asked before a row moves, in the rule's order; then nothing refuses it, and what `enclose` promises is the answer.
use Rattle.std.proofs.Common.{refl, arith}
use Rattle.rules.proofs.Flat.{wrap-before, wrap-deep, wrap-full, wrap-deeper, wrap-fuller}
use Rattle.builder.proofs.GreenNodeBuilder.wrap.Goals as goal

pub returns-then-at-self : goal.returns-then-at-self
returns-then-at-self c = rw c.at.ensures (record { is = wrap-before _ _ _ _ _ c.if-at-self.true; rest = refl })

pub returns-then-self-ge-NODES : goal.returns-then-self-ge-NODES
returns-then-self-ge-NODES c =
    rw c.at-then-self-ge-NODES.ensures
    (record { is = wrap-deep _ _ _ _ _ c.if-at-self.false c.if-self-ge-NODES.true; rest = refl })

pub returns-then-room-rows : goal.returns-then-room-rows
returns-then-room-rows c =
    rw c.at-then-room-rows.ensures
    (record { is = wrap-full _ _ _ _ _ c.if-at-self.false c.if-self-ge-NODES.false c.if-room-rows.true; rest = refl })

pub returns-then-self-ge-NODES-2 : goal.returns-then-self-ge-NODES-2
returns-then-self-ge-NODES-2 c =
    let free = c.if-room-rows.false in
    let deep = c.if-self-ge-NODES-2.true in
    rw c.at-then-self-ge-NODES-2.ensures
    (record { is = wrap-deeper _ _ _ _ _ c.if-at-self.false c.if-self-ge-NODES.false free (omega arith); rest = refl })

pub returns-then-room-last : goal.returns-then-room-last
returns-then-room-last c =
    let free = c.if-room-rows.false in
    let full = c.if-room-last.true in
    rw c.at-then-room-last.ensures
    (record { is = wrap-fuller _ _ _ _ _ c.if-at-self.false c.if-self-ge-NODES-2.false free (omega arith); rest = refl })
