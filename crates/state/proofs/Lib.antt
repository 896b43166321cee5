-- What the proofs of several functions use, here and in the crates that stand on this one.
pub mod Building
pub mod Walk
pub mod Loop
pub mod Outside
pub mod Turn
pub mod Marks
pub mod Left
