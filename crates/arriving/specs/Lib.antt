pub mod Feed
pub mod Bulk
