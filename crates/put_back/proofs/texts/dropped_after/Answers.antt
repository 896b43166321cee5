-- A turn writes the row's text if it stands behind so many leaves, and nothing else.
use Rattle.std.proofs.Common.{◌≤◌, length, arith}
use Rattle.std.proofs.lemmas.List.{drop_all}
use Rattle.listings.proofs.Writing.{turns, goes, ends}
use Rattle.put_back.proofs.TextsLeft.{dropped-here, dropped-elsewhere}
use Rattle.put_back.proofs.texts.dropped_after.Goals as goal
use Rattle.put_back.proofs.texts.dropped_after.Goals.{then-before-leaves, else-before-leaves}

pub loop-row-preserved : goal.loop-row-preserved
loop-row-preserved c =
    let here = dropped-here c.args.text.now c.args.tokens.now c.args.leaves c.args.dropped.now c.loop-row.row-index c.loop-row-test.true in
    let elsewhere = dropped-elsewhere c.args.text.now c.args.tokens.now c.args.leaves c.args.dropped.now c.loop-row.row-index c.loop-row-test.true in
    elim c.if-before-leaves.branch [
      | then-before-leaves w ↦
          rw (w.out-is, w.next-is) (goes (turns (here w.if-before-leaves.true) c.loop-row.invariant) w.token-next.ensures)
      | else-before-leaves w ↦ rw (w.out-is, w.next-is) (turns (elsewhere w.if-before-leaves.false) c.loop-row.invariant)
    ]

pub returns : goal.returns
returns c =
    let all : length c.args.dropped.now ≤ c.loop-row.row-index = omega arith in
    ends (rw (drop_all c.loop-row.row-index c.args.dropped.now all) at c.loop-row.invariant)
