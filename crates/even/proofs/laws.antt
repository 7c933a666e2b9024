-- What is proved of the definitions.
pub mod Distance
pub mod Foot
pub mod Least
pub mod Quad
