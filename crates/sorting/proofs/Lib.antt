pub mod Sorted
pub mod Heaps
pub mod Repeats
