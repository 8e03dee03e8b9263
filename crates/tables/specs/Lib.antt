pub mod Bounds
pub mod Bundles
pub mod Exports
pub mod Imports
pub mod Edits
pub mod Mends
pub mod Pieces
pub mod Differences
