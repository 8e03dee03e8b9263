pub mod Back
pub mod Cutting
pub mod Settling
pub mod Theorem
pub mod Present
