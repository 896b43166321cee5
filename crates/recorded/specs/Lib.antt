-- What the bytes of a recorded case say, how its rows are recorded, and what the answers of the comparisons stand for.
pub mod Recorded
pub mod Regular
pub mod Compared
