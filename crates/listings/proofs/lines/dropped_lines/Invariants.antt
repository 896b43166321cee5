-- The loop's invariant: whatever writes the lines that are left has written them all.
use Rattle.std.proofs.Common.{min, ◌-◌, ◌/◌, length}
use Rattle.rules.specs.Limits.{dropped_width}
use Rattle.rules.specs.Listing.{dropped_lines}
use Rattle.listings.proofs.Writing.{Left}
use Rattle.listings.proofs.lines.dropped_lines.Given as goal

abbrev pub invariant-loop-row : goal.invariant-loop-row
invariant-loop-row l =
    let told = min l.count (length l.dropped / dropped_width) in
    Left (dropped_lines l.dropped (told - l.row-index) l.row-index) l.out l.next (dropped_lines l.dropped told 0) l.fn.out l.at
