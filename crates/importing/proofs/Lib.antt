pub mod Sorted
pub mod Theorem
pub mod Record
pub mod Back
pub mod Laid
