pub mod Named
pub mod Claims
pub mod Refused
