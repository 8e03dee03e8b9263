pub mod Sorts
pub mod Whole
