pub mod Component
pub mod Named
