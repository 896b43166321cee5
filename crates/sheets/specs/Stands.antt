-- The answer of reading in the paper's numbers, case by case.
use Rattle.std.specs.Prelude.{Result, Ok, Err, Option, Some, None}
use Rattle.rules.specs.Checks.{Refusal}
use Rattle.rules.specs.Sheet.{unreadable}
use Rattle.sheets.specs.declared.sections.Sections.{Sections}
use Rattle.sheets.specs.declared.sheet.Unread.{Unread}
use Rattle.sheets.specs.declared.sheet.Unread.TheVariants.{Refused, NoRoom}

-- "A sheet that is longer, of another version, cut short, followed by more, or with a table not of whole numbers prints `refused 9 0`"
abbrev pub refusal_of : Result Sections Unread → Option Refusal
refusal_of (Ok sections) = None
refusal_of (Err Refused) = Some (unreadable, 0)
refusal_of (Err (NoRoom numbers)) = None
