pub mod Path
pub mod Code
