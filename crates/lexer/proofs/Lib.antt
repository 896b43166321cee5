-- What the proofs of several functions use, and what callers need.
pub mod Begins
pub mod Utf8
pub mod Laws
pub mod Only
