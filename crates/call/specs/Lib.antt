pub mod Call
pub mod Walked
pub mod Deeds
pub mod Places
