-- The first numbers of the part are the sheet's, the others are as they were.
use Rattle.std.proofs.Common.{◌≡◌, ◌++◌, drop}
use Rattle.rules.specs.Sheet.{numbers_at}
use Rattle.sheets.proofs.big_endian.numbers.Given as goal

abbrev pub invariant-loop-i : goal.invariant-loop-i
invariant-loop-i l = l.part ≡ numbers_at l.bytes l.from l.i ++ drop l.i l.initial.part
