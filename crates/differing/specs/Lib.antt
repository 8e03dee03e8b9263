pub mod Differing
pub mod Exactly
