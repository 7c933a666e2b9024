-- What is proved of the definitions.
pub mod Mates
pub mod Nodes
pub mod Swap
pub mod Agree
