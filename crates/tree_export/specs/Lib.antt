pub mod Export
pub mod Code
