pub mod held
pub mod laws
