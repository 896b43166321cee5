-- How the parser's state stands for the rules' position, and what the contracts of its routines say.
pub mod Stands
pub mod Change
pub mod Contract
