pub mod Whole
pub mod Sixteen
pub mod Claims
