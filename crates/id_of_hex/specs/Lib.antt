pub mod Id
pub mod Examples
