pub mod Read
pub mod Settle
pub mod Once
pub mod Own
pub mod Passed
