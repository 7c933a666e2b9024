pub mod Plane
pub mod held
pub mod laws
