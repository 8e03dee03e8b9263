pub mod Basics
pub mod Verdict
pub mod Scan
