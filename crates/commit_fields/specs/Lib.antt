pub mod Parents
pub mod Headers
pub mod Fields
pub mod Outcome
