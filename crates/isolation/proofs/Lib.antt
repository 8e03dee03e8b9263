pub mod Checked
pub mod Isolation
