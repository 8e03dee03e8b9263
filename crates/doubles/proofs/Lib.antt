pub mod Common
pub mod Theorem
pub mod Stacking
pub mod Placing
