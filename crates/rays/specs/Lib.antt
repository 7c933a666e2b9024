pub mod Inside
pub mod held
pub mod laws
