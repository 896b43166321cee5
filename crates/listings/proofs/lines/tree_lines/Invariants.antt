-- The loop's invariant: whatever writes the lines that are left, with `depth` nodes open there, has written them all; no more nodes are open than
-- rows were passed.
use Rattle.std.proofs.Common.{min, ◌-◌, ◌≤◌}
use Rattle.rules.specs.Listing.{tree_lines}
use Rattle.rules.specs.Questions.{row_count}
use Rattle.listings.proofs.Writing.{Left}
use Rattle.listings.proofs.lines.tree_lines.Given as goal

abbrev pub invariant-loop-row : goal.invariant-loop-row
invariant-loop-row l =
    let shown = min l.count (row_count l.tree) in
    (l.depth ≤ l.row-index)
    × Left (tree_lines l.tree (shown - l.row-index) l.row-index l.depth) l.out l.next (tree_lines l.tree shown 0 0) l.fn.out l.at
