pub mod Walks
pub mod Steps
pub mod Openings
pub mod Doing
pub mod Turning
pub mod Ending
