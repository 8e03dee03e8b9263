pub mod Halving
pub mod Lookup
