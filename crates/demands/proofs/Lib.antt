pub mod Sentences
pub mod Octal
pub mod Documented
pub mod Found
pub mod Stepping
pub mod Demand2
pub mod Demand3
