pub mod Level
pub mod Steps
pub mod Runs
pub mod Judged
pub mod Laws
pub mod Bulk
