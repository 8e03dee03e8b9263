pub mod Strict
pub mod Code
