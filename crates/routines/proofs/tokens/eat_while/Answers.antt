-- The loop eats while the next token's kind has the answer yes.
use Rattle.routines.proofs.Eating.{eating_begins, eating_next, eating_goes_on, eating_less, eating_stops, eating_ends}
use Rattle.routines.proofs.tokens.eat_while.Goals as goal

pub loop-tree-init : goal.loop-tree-init
loop-tree-init g c = eating_begins

pub eat-requires : goal.eat-requires
eat-requires g c = eating_next c.loop-tree.invariant c.asked.ensures c.loop-tree-test.true c.requires

pub returns-in_err-now : goal.returns-in_err-now
returns-in_err-now g c =
    eating_stops c.loop-tree.invariant c.asked.ensures c.loop-tree-test.true c.eat.ensures c.in_err-now.was c.from_residual.ensures

pub loop-tree-smaller : goal.loop-tree-smaller
loop-tree-smaller g c = eating_less c.loop-tree.invariant c.asked.ensures c.loop-tree-test.true c.eat.ensures c.requires c.in_ok-now.was

pub loop-tree-preserved : goal.loop-tree-preserved
loop-tree-preserved g c = eating_goes_on c.loop-tree.invariant c.asked.ensures c.loop-tree-test.true c.eat.ensures c.in_ok-now.was

pub returns : goal.returns
returns g c = eating_ends c.loop-tree.invariant c.asked.ensures c.loop-tree-test.false
