pub mod Fed
pub mod Strict
pub mod Sixteen
pub mod Bound
pub mod Theorem
