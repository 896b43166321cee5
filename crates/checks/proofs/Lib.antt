-- What an answer tells the caller, and a law for the searches over rows.
pub mod Answers
pub mod Rows
