pub mod Listing
pub mod Whole
pub mod Lengths
