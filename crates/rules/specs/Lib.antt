pub mod Rules
pub mod Gate
pub mod Code
