pub mod Actor
pub mod Form
