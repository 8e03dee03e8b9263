pub mod Folders
pub mod Ending
pub mod Roots
