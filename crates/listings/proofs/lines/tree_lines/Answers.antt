-- A turn writes the next of the lines that are left, and a row opens one node at most; at the end no line is left.
use Rattle.std.proofs.Common.{◌≡◌, ℕ, ◌+◌, ◌-◌, ◌≤◌, ◌<◌, List, [], take, get_or, arith}
use Rattle.std.proofs.lemmas.List.{length-take-le}
use Rattle.std.specs.Simd.{first_chunks}
use Rattle.rules.specs.Limits.{tree_width}
use Rattle.rules.specs.Listing.{tree_line, tree_lines}
use Rattle.rules.specs.Questions.{open_after}
use Rattle.rules.proofs.Listing.{tree_next, tree_end}
use Rattle.rules.proofs.Questions.{open_after_most}
use Rattle.listings.specs.Contract.{Wrote}
use Rattle.listings.proofs.Rows.{row_at, tag_of, tree_line_of}
use Rattle.listings.proofs.Writing.{Left, turns, goes, ends}
use Rattle.listings.proofs.lines.tree_lines.Goals as goal

module _ (tree : List ℕ) (shown row depth : ℕ) {out whole out₀ : List ℕ} {at at₀ : ℕ}
    (left : Left (tree_lines tree (shown - row) row depth) out at whole out₀ at₀) where
  next_row : (count k : ℕ) {rows : List (List ℕ)} → rows ≡ first_chunks tree_width k tree → row < count → row < k → row < shown
      → {v : List ℕ} {next after : ℕ} → Wrote (tree_line (get_or (take count rows) row []) 0 depth) out at v next
      → after ≡ open_after (get_or (get_or (take count rows) row []) 0 0) depth
      → Left (tree_lines tree (shown - (row + 1)) (row + 1) after) v next whole out₀ at₀
  next_row count k are listed there more put opens =
      let is = row_at tree_width k count row tree are listed there in
      rw (opens, is, tag_of tree row)
      (goes (turns (tree_next tree shown row depth more) left) (rw (is, tree_line_of tree row depth) at put))

  none_left : shown ≤ row → Wrote whole out₀ at₀ out at
  none_left end = ends (turns (tree_end tree shown row depth end) left)

-- a row opens one node at most
one_more : (tag depth row : ℕ) {after : ℕ} → after ≡ open_after tag depth → depth ≤ row → after ≤ row + 1
one_more tag depth row opens few = omega (arith, open_after_most tag depth)

pub loop-row-preserved : goal.loop-row-preserved
loop-row-preserved c =
    let listed = length-take-le c.min.result c.as_chunks.result.0.now (omega arith) in (
      search one_more,
      next_row _ _ _ _ c.loop-row.invariant.1 c.min.result _ c.as_chunks.ensures.front (omega arith) (omega arith) (omega arith)
          c.tree_line-next.ensures c.open_after-depth.ensures,
    )

pub returns : goal.returns
returns c =
    let listed = length-take-le c.min.result c.as_chunks.result.0.now (omega arith) in
    none_left _ _ _ _ c.loop-row.invariant.1 (omega arith)
