pub mod Lowest
pub mod held
pub mod laws
