-- The proofs of the tokeniser.
mod Bytes
mod Spellings
mod Stops
mod Fronts
mod High
mod Cutting
mod Judged
pub mod Only
