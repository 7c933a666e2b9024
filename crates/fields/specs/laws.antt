-- What is proved of the definitions.
pub mod Lanes
pub mod Agree
