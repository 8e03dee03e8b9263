pub mod Sort
pub mod Heap
pub mod Repeats
