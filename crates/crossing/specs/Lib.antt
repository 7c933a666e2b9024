pub mod Crossed
pub mod Position
pub mod held
pub mod laws
