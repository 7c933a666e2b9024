pub mod Space
pub mod held
pub mod laws
