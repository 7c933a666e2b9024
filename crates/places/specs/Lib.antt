pub mod Points
pub mod held
pub mod laws
