pub mod Kept
pub mod Code
