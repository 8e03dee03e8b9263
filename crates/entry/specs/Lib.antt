pub mod Record
pub mod Entry
pub mod Decode
pub mod Parts
