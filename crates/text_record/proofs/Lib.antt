pub mod Laws
pub mod Shape
