pub mod Table
pub mod Edit
