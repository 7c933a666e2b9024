pub mod Part
pub mod held
pub mod laws
