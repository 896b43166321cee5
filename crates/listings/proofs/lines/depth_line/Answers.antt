-- The depth and then the rest of the line.
use Rattle.rules.specs.Listing.{line}
use Rattle.listings.proofs.Writing.{then}
use Rattle.listings.proofs.lines.depth_line.Goals as goal

pub returns : goal.returns
unfolding line
returns c = search then
