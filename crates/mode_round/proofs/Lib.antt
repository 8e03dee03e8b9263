pub mod Space
pub mod Again
pub mod Rows
