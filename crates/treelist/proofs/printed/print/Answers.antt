-- A sheet that is read is run and listed, one that is refused is listed as 9, and the numbers always have room.
use Rattle.sheets.proofs.Answers.{told, told-refused, always_room}
use Rattle.treelist.proofs.Laws.{of_run}
use Rattle.treelist.proofs.printed.print.Goals as goal
use Rattle.treelist.proofs.printed.print.Goals.{in-Ok, in-Err-Refused}

pub run_sheet-answer-requires : goal.run_sheet-answer-requires
run_sheet-answer-requires c = told c.args.sheet.now c.read.ensures c.in-Ok.is

pub unreachable-requires : goal.unreachable-requires
unreachable-requires c = always_room c.args.sheet.now c.read.ensures c.requires.0 (rw c.in-Err-NoRoom.field-0-is at c.in-Err-NoRoom.is)

pub returns : goal.returns
returns c =
    elim c.match-read.branch [
      | in-Ok w ↦
          of_run c.args.sheet.now c.args.tree.now c.args.dropped.now c.read.ensures w.in-Ok.is w.run_sheet-answer.ensures
          (rw (w.answer-is, w.tree-is, w.dropped-is) at c.list_all.ensures)
      | in-Err-Refused w ↦
          rw (told-refused c.args.sheet.now c.read.ensures (rw w.in-Err-Refused.field-0-is at w.in-Err-Refused.is))
          (rw (w.answer-is, w.tree-is, w.dropped-is, w.at.ensures) at c.list_all.ensures)
    ]
