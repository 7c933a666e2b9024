pub mod Edges
pub mod Order
pub mod held
pub mod laws
