pub mod Laws
pub mod Judging
pub mod Strictly
pub mod Scanned
