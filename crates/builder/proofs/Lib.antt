-- What the proofs of several functions use.
pub mod Numbers
pub mod Laws
pub mod Facts
pub mod Only
