-- What the contracts of the tokeniser cite.
pub mod Bytes
pub mod Lexemes
pub mod Answers
