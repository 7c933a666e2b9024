pub mod Reach
pub mod held
pub mod laws
