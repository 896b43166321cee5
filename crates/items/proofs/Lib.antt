-- That the contracts fix the results. No law here serves several functions: those of arms stand in the crate below.
pub mod Only
