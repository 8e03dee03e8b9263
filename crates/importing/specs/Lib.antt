pub mod Importing
pub mod Back
