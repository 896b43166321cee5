-- The program's buffers, of the sizes that documents 01 and 02 give, in which every answer's lines have room; and lines that are printed into one.
use Rattle.std.specs.Prelude.{ℕ, ◌*◌, ◌≤◌, List, ◌≡◌, length}
use Rattle.rules.specs.Limits
use Rattle.rules.specs.Run.{over}
use Rattle.rules.specs.Treelist.{tree_rows, dropped_rows, most_printed}

pub record Small (tree dropped out : List ℕ) : Type 0 where
  pub tree_rows : length tree ≡ tree_rows * Limits.tree_width
  pub dropped-rows : length dropped ≡ dropped_rows * Limits.dropped_width
  pub room : most_printed ≤ length out

-- the lines stand whole at the buffer's start, and later bytes keep what they held
pub record Prints (lines out : List ℕ) (r : ℕ) (after : List ℕ) : Type 0 where
  pub count : r ≡ length lines
  pub fits : r ≤ length out
  pub written : after ≡ over lines out
