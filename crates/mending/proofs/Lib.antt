pub mod Shorter
pub mod Sound
pub mod Unchanged
pub mod Theorem
