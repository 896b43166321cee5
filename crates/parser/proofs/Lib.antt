-- What the proofs of several functions use.
pub mod AfterArgument
pub mod ArgumentLoop
pub mod Choices
pub mod Cycle
pub mod Entry
pub mod Extents
pub mod ItemLoop
pub mod ListNode
pub mod Marks
pub mod Scripts
pub mod Shapes
pub mod WordLoop
pub mod FromRoot
