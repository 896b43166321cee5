-- A word and then two numbers.
use Rattle.rules.specs.Listing.{line}
use Rattle.listings.proofs.Writing.{then}
use Rattle.listings.proofs.lines.head.Goals as goal

pub returns : goal.returns
unfolding line
returns c = search then
