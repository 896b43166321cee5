-- The numbers and then a line break.
use Rattle.listings.proofs.Writing.{then}
use Rattle.listings.proofs.lines.rest_of_line.Goals as goal

pub returns : goal.returns
returns c = search then
