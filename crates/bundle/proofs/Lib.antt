pub mod Laws
pub mod Objects
