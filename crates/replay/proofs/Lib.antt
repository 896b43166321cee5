-- What the contracts fix.
pub mod Only
