-- A turn writes the next of the lines that are left, and at the end no line is left.
use Rattle.std.proofs.Common.{◌≡◌, ℕ, ◌+◌, ◌-◌, ◌≤◌, ◌<◌, List, [], take, get_or, arith}
use Rattle.std.proofs.lemmas.List.{length-take-le}
use Rattle.std.specs.Simd.{first_chunks}
use Rattle.rules.specs.Limits.{dropped_width}
use Rattle.rules.specs.Listing.{dropped_line, dropped_lines}
use Rattle.rules.proofs.Listing.{dropped-next, dropped-end}
use Rattle.listings.specs.Contract.{Wrote}
use Rattle.listings.proofs.Rows.{row_at, dropped_line_of}
use Rattle.listings.proofs.Writing.{Left, turns, goes, ends}
use Rattle.listings.proofs.lines.dropped_lines.Goals as goal

module _ (dropped : List ℕ) (told row : ℕ) {out whole out₀ : List ℕ} {at at₀ : ℕ}
    (left : Left (dropped_lines dropped (told - row) row) out at whole out₀ at₀) where
  next_row : (count k : ℕ) {rows : List (List ℕ)} → rows ≡ first_chunks dropped_width k dropped → row < count → row < k → row < told
      → {v : List ℕ} {next : ℕ} → Wrote (dropped_line (get_or (take count rows) row []) 0) out at v next
      → Left (dropped_lines dropped (told - (row + 1)) (row + 1)) v next whole out₀ at₀
  next_row count k are shown there more put =
      goes (turns (dropped-next dropped told row more) left)
      (rw (row_at dropped_width k count row dropped are shown there, dropped_line_of dropped row) at put)

  none_left : told ≤ row → Wrote whole out₀ at₀ out at
  none_left end = ends (turns (dropped-end dropped told row end) left)

pub loop-row-preserved : goal.loop-row-preserved
loop-row-preserved c =
    let shown = length-take-le c.min.result c.as_chunks.result.0.now (omega arith) in
    next_row _ _ _ c.loop-row.invariant c.min.result _ c.as_chunks.ensures.front (omega arith) (omega arith) (omega arith) c.dropped_line-next.ensures

pub returns : goal.returns
returns c =
    let shown = length-take-le c.min.result c.as_chunks.result.0.now (omega arith) in
    none_left _ _ _ c.loop-row.invariant (omega arith)
