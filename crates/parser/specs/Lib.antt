-- What the contracts of the cycle of calls say.
pub mod Member
pub mod Root
