-- The loop's invariant: whatever writes the texts of the dropped rows from this one on has written them all.
use Rattle.std.proofs.Common.{drop}
use Rattle.rules.specs.PutBack.{with_texts, dropped_after}
use Rattle.listings.proofs.Writing.{Left}
use Rattle.put_back.proofs.texts.dropped_after.Given as goal

abbrev pub invariant-loop-row : goal.invariant-loop-row
invariant-loop-row l =
    let whole = dropped_after l.leaves (with_texts l.text l.tokens l.dropped) in
    Left (dropped_after l.leaves (with_texts l.text l.tokens (drop l.row-index l.dropped))) l.out l.next whole l.fn.out l.at
