-- What the proofs of several functions use, and what the contracts fix.
pub mod Telling
pub mod OneNumber
pub mod Only
