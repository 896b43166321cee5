-- A row of a table by itself: what its line is, and which row stands at a place of the table's whole rows. Assumes nothing.
use Prim.Native.Nat.{ℕ, zero, suc, ◌+◌, ◌*◌, ◌<◌}
use mathlib.Core.List.{List, []}
use mathlib.Core.Path.{◌≡◌, ◌∙◌}
use native.Mathlib.Omega.{arith}
use lib.ListN.{take, drop, get_or}
use lib.Seq.{drop-drop}
use Rattle.std.specs.Simd.{first_chunks}
use Rattle.std.proofs.lemmas.List.{get_or-take, get_or-drop}
use Rattle.rules.specs.Limits.{tree_width, dropped_width}
use Rattle.rules.specs.Listing.{tree_line, dropped_line}
use Rattle.rules.specs.Questions.{tag_at}
use Rattle.rules.specs.Tables.{part}

-- ---- the whole rows of a table
chunk_at : (n k i : ℕ) (table : List ℕ) → i < k → get_or (first_chunks n k table) i [] ≡ part table (i * n) n
chunk_at n zero i table there = absurd (omega arith)
chunk_at n (suc k) zero table there = let none : 0 * n ≡ 0 = omega arith in rw none
chunk_at n (suc k) (suc i) table there =
    let on : n + i * n ≡ suc i * n = omega arith in
    chunk_at n k i (drop n table) (omega arith) ∙ rw (drop-drop (i * n) n table, on)

pub row_at : {rows : List (List ℕ)} (n k count i : ℕ) (table : List ℕ) → rows ≡ first_chunks n k table → i < count → i < k
    → get_or (take count rows) i [] ≡ part table (i * n) n
row_at n k count i table are shown there = rw (are, get_or-take count (first_chunks n k table) i [] shown) (chunk_at n k i table there)

-- ---- the numbers of a row
module _ (table : List ℕ) (n row : ℕ) where
  cell_of : (column : ℕ) → column < n → get_or (part table (row * n) n) column 0 ≡ get_or table (row * n + column) 0
  cell_of column low = get_or-take n (drop (row * n) table) column 0 low ∙ get_or-drop (row * n) table column 0

module _ (tree : List ℕ) (row depth : ℕ) where
  pub tag_of : get_or (part tree (row * tree_width) tree_width) 0 0 ≡ tag_at tree row
  tag_of = cell_of tree tree_width row 0 (omega arith)

  pub tree_line_of : tree_line (part tree (row * tree_width) tree_width) 0 depth ≡ tree_line tree row depth
  unfolding tree_line
  tree_line_of =
      let cell = cell_of tree tree_width row in
      rw (cell 0 (omega arith), cell 1 (omega arith), cell 2 (omega arith), cell 3 (omega arith), cell 4 (omega arith))

pub dropped_line_of : (dropped : List ℕ) (row : ℕ)
    → dropped_line (part dropped (row * dropped_width) dropped_width) 0 ≡ dropped_line dropped row
unfolding dropped_line
dropped_line_of dropped row =
    let cell = cell_of dropped dropped_width row in
    rw (cell 0 (omega arith), cell 1 (omega arith), cell 2 (omega arith))
