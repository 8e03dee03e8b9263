pub mod Walk
pub mod Places
pub mod Repeats
pub mod Pairs
pub mod Bytes
pub mod Whole
pub mod Lent
