pub mod Laws
pub mod Done
