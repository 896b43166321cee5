-- What the proof of the run uses, what its contract fixes, and what a client of it has.
pub mod Answers
pub mod Ways
pub mod Only
pub mod NothingLost
pub mod FromText
pub mod Formulas
pub mod Room
