-- Each test asks whether the case can be replayed, and then its sheet is run.
use Rattle.std.proofs.Common.{◌≡◌, ℕ, ◌+◌, ◌-◌, ◌≤◌, List, length, take, replicate, ◌∙◌, arith, rules}
use Rattle.std.specs.Prelude.{Result, Ok, Err}
use Rattle.std.proofs.lemmas.List.{take-replicate}
use borrow.Author.Tests.{le-leb}
use Rattle.rules.specs.Run.{run}
use Rattle.rules.specs.Sheet.{number_at, read, tables_of}
use Rattle.rules.specs.Tables.{part}
use Rattle.rules.specs.Treelist.{most_numbers}
use Rattle.sheets.specs.Contract.{Reads}
use Rattle.sheets.specs.declared.sections.Sections.{Sections}
use Rattle.sheets.specs.declared.sheet.Unread.{Unread}
use Rattle.sheets.specs.declared.sheet.Unread.TheVariants.{Refused, NoRoom}
use Rattle.sheets.proofs.Answers.{told, told-refused, always_room}
use Rattle.recorded.specs.Recorded.{before}
use Rattle.replay.specs.Replays.{Judges, Replays, tables_in, dropped_before, most_room, not_replayed}
use Rattle.replay.specs.declared.case.Replayed.{Replayed}
use Rattle.replay.proofs.case.replay.Goals as goal

module _ (case : List ℕ) {n : ℕ} (n_is : n ≡ number_at case 0) (there : 4 + n ≤ length case)
    {room : ℕ} (room_is : room ≡ number_at case (4 + n)) (small : room ≤ most_room) where
  -- the sheet as the code cuts it out
  abbrev sheet : List ℕ
  sheet = part case 4 (4 + n - 4)

  tables_are : tables_in case ≡ read sheet
  tables_are = let size : 4 + n - 4 ≡ n = omega arith in rw (← n_is, ← room_is, le-leb _ _ there, le-leb _ _ small, size)

  replayed : {found : Result Sections Unread} {table after : List ℕ} {s : Sections} {r : Replayed} → Reads (read sheet) table found after
      → found ≡ Ok s
      → Judges case (4 + n + 4) (tables_of sheet).text (tables_of sheet).tokens
      (run (tables_of sheet) (take room (replicate most_room before)) (dropped_before (tables_of sheet).tokens)) r
      → Replays case r
  replayed reads is judged =
      let lent = take-replicate room most_room before small in
      record { on = rw (tables_are ∙ (told sheet reads is).tables, ← n_is, ← room_is, ← lent) judged }

  -- the numbers of every sheet have room
  unread : (e : Unread) {found : Result Sections Unread} {table after : List ℕ} → Reads (read sheet) table found after
      → most_numbers ≤ length table → found ≡ Err e → Replays case not_replayed
  unread Refused reads enough is = record { on = rw (tables_are ∙ told-refused sheet reads is) }
  unread (NoRoom m) reads enough is = absurd (always_room sheet reads enough is)

pub run_sheet-requires : goal.run_sheet-requires
run_sheet-requires c = (omega arith, omega arith, search told)

pub returns-in_default : goal.returns-in_default
returns-in_default c = search (unread, rules)

pub returns : goal.returns
returns c = search replayed
