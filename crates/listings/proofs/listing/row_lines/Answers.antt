-- The tree's lines and then those of the dropped rows.
use Rattle.listings.proofs.Writing.{then}
use Rattle.listings.proofs.listing.row_lines.Goals as goal

pub returns : goal.returns
returns c = search then
