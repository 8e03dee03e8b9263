pub mod Walk
pub mod Bisect
pub mod Bytes
pub mod Fates
pub mod Sorts
