pub mod Answer
pub mod laws
pub mod held
