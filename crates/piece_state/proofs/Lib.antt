pub mod Laws
pub mod Each
