pub mod Laws
pub mod Front
pub mod Lengths
