pub mod Sound
pub mod Lawful
pub mod Again
pub mod Demand
