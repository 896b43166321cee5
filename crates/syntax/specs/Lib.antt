-- How the types of the code stand for the rules', and 01's numbers in the order of the constants.
pub mod ParseScope
pub mod Numbers
pub mod Refusal
pub mod SyntaxKind
pub mod Rows
pub mod Tables
