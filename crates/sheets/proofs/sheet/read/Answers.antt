-- A sheet that is refused or has no room writes nothing, and else the tables fill the buffer.
use Rattle.std.proofs.Common.{arith}
use Rattle.rules.proofs.Asked.{missed, met}
use Rattle.sheets.proofs.Reading.{refused, no_room, all_read}
use Rattle.sheets.proofs.sheet.read.Goals as goal

pub returns-then-not-readable : goal.returns-then-not-readable
returns-then-not-readable c = rw (← c.of-placed.ensures) (search (refused, missed))

pub returns-then-table-needed : goal.returns-then-table-needed
returns-then-table-needed c =
    rw (← c.of-placed.ensures) (no_room _ _ c.sections-sections.ensures (search met) (omega arith))

pub returns : goal.returns
returns c = rw (← c.of-placed.ensures) (search (all_read, met))
