pub mod Laws
pub mod Flat
