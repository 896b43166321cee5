-- What the proofs of several functions use, here and in the crates that stand on this one.
pub mod ByNext
pub mod Leaves
pub mod Eating
pub mod HeldLaws
