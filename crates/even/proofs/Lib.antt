pub mod laws
mod Scaled
mod Ways
