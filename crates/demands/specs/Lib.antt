pub mod Sentences
pub mod Demand2
pub mod Demand3
