pub mod Frame
pub mod Place
