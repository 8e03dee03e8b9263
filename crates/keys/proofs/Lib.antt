pub mod Keys
pub mod Alike
