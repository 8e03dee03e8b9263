pub mod Returned
pub mod Finding
pub mod Writing
pub mod Any
pub mod Present
