pub mod Leaves
pub mod Listings
pub mod Answers
