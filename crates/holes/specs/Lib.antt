pub mod Holes
pub mod held
pub mod laws
