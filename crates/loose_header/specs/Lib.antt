pub mod Header
pub mod Digits
pub mod Examples
