pub mod Finding
pub mod Position
pub mod held
pub mod laws
