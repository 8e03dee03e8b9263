pub mod Theorems
pub mod Ordered
pub mod Once
pub mod OneSided
pub mod Stores
pub mod Exact
pub mod Called
pub mod Bytes
