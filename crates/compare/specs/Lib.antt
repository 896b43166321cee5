-- What the answers of the comparisons stand for.
pub mod Tells
