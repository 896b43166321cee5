-- The laws that the program's proofs cite.
pub mod Laws
