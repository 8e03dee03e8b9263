pub mod Mode
pub mod Read
pub mod Write
pub mod Table
