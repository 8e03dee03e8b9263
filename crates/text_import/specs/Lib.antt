pub mod Import
pub mod Code
pub mod Examples
pub mod Lent
