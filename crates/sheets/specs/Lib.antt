-- How the answer of reading stands for the rules', and what the contracts say.
pub mod Stands
pub mod Contract
