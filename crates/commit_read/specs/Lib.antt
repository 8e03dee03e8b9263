pub mod Stored
pub mod Read
