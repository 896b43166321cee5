-- The lines of every answer have room.
use Rattle.treelist.proofs.Laws.{all_written}
use Rattle.treelist.proofs.printed.list_all.Goals as goal

pub unwrap-requires : goal.unwrap-requires
unwrap-requires c =
    let low = c.in_words.ensures.1 in
    rw (all_written c.in_words.result c.args.tree.now c.args.dropped.now low c.type_inv.tree c.type_inv.dropped c.requires c.list.ensures)
