pub mod Laws
pub mod Form
