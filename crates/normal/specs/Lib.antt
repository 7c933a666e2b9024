pub mod Normal
pub mod laws
