-- The loop's invariant: whatever writes the numbers that are left has written them all.
use Rattle.std.proofs.Common.{drop}
use Rattle.rules.specs.Listing.{numbered}
use Rattle.listings.proofs.Writing.{Left}
use Rattle.listings.proofs.write.fields.Given as goal

abbrev pub invariant-loop-n : goal.invariant-loop-n
invariant-loop-n l = Left (numbered (drop l.n-index l.numbers)) l.out l.next (numbered l.numbers) l.fn.out l.at
