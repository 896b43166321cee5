-- What the proofs of several functions use, and what other crates cite.
pub mod Scopes
pub mod Arms
pub mod Lines
pub mod Only
