-- What other crates cite.
pub mod Fixed
