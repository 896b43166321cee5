-- How the builder's types stand for the rules', and what its contracts say.
pub mod Stands
pub mod Contract
