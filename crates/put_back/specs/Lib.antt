-- What is put back of a run, and when its token texts return.
pub mod Back
