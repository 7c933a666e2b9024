pub mod Lines
pub mod held
pub mod laws
