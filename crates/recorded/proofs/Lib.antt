-- What the proofs of several functions use, and what the contracts fix.
pub mod Comparing
pub mod Forms
pub mod RowByRow
pub mod Agreeing
pub mod Only
