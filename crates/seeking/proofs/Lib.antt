pub mod Halving
pub mod Indexed
pub mod Laws
pub mod Made
