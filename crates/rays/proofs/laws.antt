-- What is proved of the definitions.
pub mod Counted
pub mod Heights
pub mod Parity
pub mod Ray
pub mod Turned
pub mod Ways
