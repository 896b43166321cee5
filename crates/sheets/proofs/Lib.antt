-- The laws that the proofs of the sheets cite.
pub mod Answers
pub mod Numbers
pub mod Only
pub mod Reading
