-- What a replay says of a recorded case, and what is counted.
pub mod Replays
pub mod Tallied
