-- The loop's invariant: whatever writes the bytes from this one on has written them all.
use Rattle.std.proofs.Common.{drop}
use Rattle.listings.proofs.Writing.{Left}
use Rattle.put_back.proofs.texts.part.Given as goal

abbrev pub invariant-loop-byte : goal.invariant-loop-byte
invariant-loop-byte l = Left (drop l.byte-index l.bytes) l.out l.next l.bytes l.fn.out l.at
