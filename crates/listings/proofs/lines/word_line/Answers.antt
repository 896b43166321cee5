-- The word and then the numbers.
use Rattle.rules.specs.Listing.{line}
use Rattle.listings.proofs.Writing.{then}
use Rattle.listings.proofs.lines.word_line.Goals as goal

pub returns : goal.returns
unfolding line
returns c = search then
