pub mod Code
pub mod Quad
