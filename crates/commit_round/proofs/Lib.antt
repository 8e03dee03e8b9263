pub mod Folding
pub mod Rewriting
pub mod Fronts
pub mod Accepted
pub mod Itself
pub mod Back
