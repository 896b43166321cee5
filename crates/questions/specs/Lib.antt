-- How the types of the questions stand for the rules', and what the contract of a leaf's text says.
pub mod Stands
pub mod Contract
