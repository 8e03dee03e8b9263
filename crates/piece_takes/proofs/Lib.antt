pub mod Entry
pub mod Wholes
pub mod Stands
pub mod Some
