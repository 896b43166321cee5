-- What the program `treelist` prints for a sheet.
use Rattle.std.specs.Prelude.{ℕ, ◌*◌, ◌/◌, List, replicate}
use Rattle.std.specs.Prelude.{Option, None as none, Some as some}
use Rattle.rules.specs.Checks.{Tables}
use Rattle.rules.specs.Limits
use Rattle.rules.specs.Listing.{listing}
use Rattle.rules.specs.Run.{Ran, refused_at, run}
use Rattle.rules.specs.Sheet.{most_bytes, number_bytes, read, unreadable}

-- "It has 4,096 tree rows."; of 02's #101: "`treelist`, now with 3,276 tree rows"
abbrev pub tree_rows : ℕ
tree_rows = 3276

-- room for the numbers of every sheet that is read, and for a dropped row for each of its tokens
abbrev pub most_numbers : ℕ
most_numbers = most_bytes / number_bytes

abbrev pub dropped_rows : ℕ
dropped_rows = most_numbers / Limits.token_width

-- and for the lines of every answer on these
abbrev pub most_printed : ℕ
most_printed = 262144

abbrev pub printed_ran : Ran → List ℕ
printed_ran ran = listing ran.answer ran.tree ran.dropped

-- "A sheet that is longer, .. prints `refused 9 0`; other refusals `refused N P`.": with these two buffers
abbrev pub printed_of : List ℕ → List ℕ → Option Tables → List ℕ
printed_of tree dropped none = listing (refused_at unreadable 0) tree dropped
printed_of tree dropped (some tables) = printed_ran (run tables tree dropped)

unfoldable pub printed : List ℕ → List ℕ
printed sheet = printed_of (replicate (tree_rows * Limits.tree_width) 0) (replicate (dropped_rows * Limits.dropped_width) 0) (read sheet)
