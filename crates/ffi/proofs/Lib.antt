-- What the contracts of the exported functions fix.
pub mod Only
