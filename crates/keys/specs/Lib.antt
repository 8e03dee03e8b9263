pub mod Strict
pub mod Key
