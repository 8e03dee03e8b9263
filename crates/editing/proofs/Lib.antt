pub mod Tables
pub mod Sounds
pub mod Writing
pub mod Turns
