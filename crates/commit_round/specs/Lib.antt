pub mod Round
pub mod Claims
