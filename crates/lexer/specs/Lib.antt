-- How the crate's types stand for the rules', and what the parser keeps of its cursor.
pub mod Reading
pub mod Fine
