pub mod Calls
pub mod First
pub mod Places
