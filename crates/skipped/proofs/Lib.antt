-- What the proofs of several functions use.
pub mod Dropping
pub mod Skipping
