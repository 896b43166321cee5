-- What the proofs of several functions use, and what other crates cite.
pub mod Delimiters
pub mod Formulas
pub mod Nodes
pub mod OnTrees
pub mod Only
pub mod Tagged
pub mod Tests
pub mod Walks
