-- The first writing counts, the second writes.
use Rattle.listings.proofs.Twice.{all_written}
use Rattle.listings.proofs.listing.list.Goals as goal

pub returns : goal.returns
returns c = search all_written
