pub mod Demand
pub mod Any
