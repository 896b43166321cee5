-- The lines of an accepted run are its first line and those of the rows.
use Rattle.rules.specs.Listing.{listing}
use Rattle.listings.proofs.Writing.{then}
use Rattle.listings.proofs.listing.write.Goals as goal

pub returns-in-Ok : goal.returns-in-Ok
unfolding listing
returns-in-Ok c = rw c.in-Ok.is (search then)
