-- What is proved of the definitions.
pub mod Agree
pub mod Quad
pub mod Sizes
pub mod Sums
pub mod Triangle
