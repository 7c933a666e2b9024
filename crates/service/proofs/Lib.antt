pub mod laws
pub mod Demands
pub mod Wrong
