-- The rows moved down by two, and both new ones stand over what stayed.
use Rattle.builder.proofs.Laws.{starts_in_front}
use Rattle.builder.proofs.rows.insert_starts.Goals as goal

pub returns : goal.returns
returns c =
    starts_in_front _ _ _ c.args.part.now c.shift.new.part c.put.new.tree _ c.requires c.shift.ensures c.put.ensures c.put-2.ensures
