-- What is proved of the definitions.
pub mod Least
pub mod Pairs
