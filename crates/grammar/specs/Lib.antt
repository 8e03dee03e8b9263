pub mod Grammar
pub mod Named
