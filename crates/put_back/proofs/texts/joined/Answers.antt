-- A turn writes the next token's text.
use Rattle.std.proofs.Common.{length, arith}
use Rattle.rules.specs.Limits.{token_width}
use Rattle.listings.proofs.Rows.{row_at}
use Rattle.listings.proofs.Writing.{turns, goes}
use lib.Seq.{take-length}
use Rattle.put_back.proofs.TextsLeft.{tokens_next}
use Rattle.put_back.proofs.texts.joined.Goals as goal

pub loop-row-preserved : goal.loop-row-preserved
loop-row-preserved c =
    let rows = c.as_chunks.result.0.now in
    let there = c.as_chunks.ensures.front in
    let row = rw take-length at (row_at token_width _ (length rows) c.loop-row.row-index c.args.tokens.now there (omega arith) (omega arith)) in
    goes (turns (tokens_next c.args.text.now c.args.tokens.now _ _ c.loop-row.row-index (omega arith) row) c.loop-row.invariant) c.part-next.ensures
