pub mod Fold
pub mod Encoding
