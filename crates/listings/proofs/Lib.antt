-- The laws that the proofs of the listing cite.
pub mod Only
pub mod Rows
pub mod Twice
pub mod Writing
