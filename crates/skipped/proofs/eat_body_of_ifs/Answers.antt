-- The loop eats what is of the body, and then there is nothing or the \fi.
use native.Mathlib.Omega.{arith}
use Rattle.lexer.proofs.Laws.{peeked, ended}
use Rattle.skipped.proofs.Dropping.{row_free}
use Rattle.state.proofs.Outside.{known-somehow}
use Rattle.skipped.proofs.Skipping.{skipping_begins, skipping_ready, skipping_there, skipping_in, skipping_goes_on, skipping_less, skipping_stops, skipping_ends, skipping_closes}
use Rattle.skipped.proofs.eat_body_of_ifs.Goals as goal

pub loop-nested-init : goal.loop-nested-init
loop-nested-init c = skipping_begins

-- the kind of the next token, and the nesting behind it
pub cell-requires : goal.cell-requires
cell-requires c = (skipping_there c.loop-nested.invariant c.more_body.ensures c.loop-nested-test.true, omega arith)

pub nested_behind-nested-requires : goal.nested_behind-nested-requires
nested_behind-nested-requires c = skipping_in c.loop-nested.invariant c.more_body.ensures c.loop-nested-test.true c.cell.ensures c.requires

-- it is eaten
pub eat-requires : goal.eat-requires
eat-requires c =
    let there = skipping_there c.loop-nested.invariant c.more_body.ensures c.loop-nested-test.true in
    (there, known-somehow (skipping_ready c.loop-nested.invariant c.requires))

pub returns-in_err-now : goal.returns-in_err-now
returns-in_err-now c =
    skipping_stops c.loop-nested.invariant c.more_body.ensures c.loop-nested-test.true (c.eat.ensures _) c.in_err-now.was c.from_residual.ensures

pub loop-nested-smaller : goal.loop-nested-smaller
loop-nested-smaller c =
    skipping_less c.loop-nested.invariant c.more_body.ensures c.loop-nested-test.true (c.eat.ensures _) c.requires c.in_ok-now.was

pub loop-nested-preserved : goal.loop-nested-preserved
loop-nested-preserved c =
    skipping_goes_on c.loop-nested.invariant c.more_body.ensures c.loop-nested-test.true (c.eat.ensures _) c.nested_behind-nested.ensures
    c.cell.ensures c.in_ok-now.was

-- there is nothing
pub returns-in_default : goal.returns-in_default
returns-in_default c = skipping_ends c.loop-nested.invariant (ended _ _ c.peek.ensures c.in_default.is)

-- there is the \fi
pub drop_next-requires : goal.drop_next-requires
drop_next-requires c =
    let k = skipping_ready c.loop-nested.invariant c.requires in
    row_free k.ready (rw k.seen (peeked _ _ c.peek.ensures c.in-Some.is).there)

pub returns : goal.returns
returns c =
    let there = (peeked _ _ c.peek.ensures c.in-Some.is).there in
    skipping_closes c.loop-nested.invariant c.more_body.ensures c.loop-nested-test.false there c.drop_next.ensures
