-- What the proofs of several functions use, here and in the cycle.
pub mod ArgumentNode
