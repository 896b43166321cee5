-- Each token is counted, and its row is written if there is room; the token there tells how far the place moves.
use Rattle.std.proofs.Common.{arith}
use Rattle.rules.proofs.TokensOf.{size_at}
use Rattle.tokeniser.proofs.Cutting.{none_yet, goes_on, all_counted, at-the_end}
use Rattle.tokeniser.proofs.rows.cut.Goals as goal

pub loop-at-init : goal.loop-at-init
loop-at-init c = none_yet _ _

pub put-requires : goal.put-requires
put-requires c =
    let text = c.args.text.now in
    let counted = c.loop-at.invariant.counted in
    let stands = c.lexeme_at-token.ensures in
    let fine = size_at text c.loop-at.at c.loop-at-test.true in (
      omega (arith, counted.few, counted.inside),
      omega (arith, stands.start, fine.fits, fine.within),
      omega (arith, stands.long, fine.fits, fine.within),
    )

pub loop-at-smaller : goal.loop-at-smaller
loop-at-smaller c =
    let fine = size_at c.args.text.now c.loop-at.at c.loop-at-test.true in
    omega (arith, fine.some, fine.fits, c.lexeme_at-token.ensures.end)

pub loop-at-preserved : goal.loop-at-preserved
loop-at-preserved c =
    goes_on c.args.text.now c.loop-at.invariant _ c.loop-at-test.true c.lexeme_at-token.ensures c.put.ensures c.put.auto.rows

pub returns : goal.returns
returns c =
    let text = c.args.text.now in
    let so_far = c.loop-at.invariant in
    let past = c.loop-at-test.false in
    (all_counted text so_far.counted past, at-the_end text so_far past)
