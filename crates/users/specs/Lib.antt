pub mod EdgeList
pub mod held
pub mod laws
