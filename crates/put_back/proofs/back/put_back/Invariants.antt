-- The loop's invariant: whatever writes what is put back from this row on has written all of it; there are no more leaves than rows before it.
use Rattle.std.proofs.Common.{◌≤◌, drop}
use Rattle.rules.specs.PutBack.{stored, put_back, with_texts}
use Rattle.listings.proofs.Writing.{Left}
use Rattle.put_back.proofs.TextsLeft.{back_texts}
use Rattle.put_back.proofs.back.put_back.Given as goal

abbrev pub invariant-loop-row : goal.invariant-loop-row
invariant-loop-row l =
    let notes = with_texts l.text l.tokens l.dropped in
    let whole = put_back (stored l.text l.tokens l.tree l.dropped) in
    (l.leaves ≤ l.row-index) × Left (back_texts l.text notes l.leaves (drop l.row-index l.tree)) l.out l.next whole l.fn.out 0
