pub mod laws
pub mod held
