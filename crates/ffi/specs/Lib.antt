-- What comes back over C, as the rules have it.
pub mod Exported
