-- How a run's answer stands for the rules', and what the contracts of its listing say.
pub mod Stands
pub mod Contract
