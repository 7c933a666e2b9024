-- What is proved of the definitions.
pub mod Corners
pub mod Turned
