pub mod Hex
pub mod Demand
pub mod Examples
