-- The measure is the number: what stands before its last digit is less.
use Rattle.listings.proofs.write.+number.Given as goal

abbrev pub decreases-number : goal.decreases-number
decreases-number l = l.n
