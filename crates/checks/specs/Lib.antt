-- How the answers of the checks stand for the rules'.
pub mod Checked
