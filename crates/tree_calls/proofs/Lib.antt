pub mod Entries
pub mod Placed
pub mod Reading
pub mod Lookup
pub mod Writing
pub mod Listing
pub mod Places
