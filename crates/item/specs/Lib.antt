pub mod Items
pub mod Put
