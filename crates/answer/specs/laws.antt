-- What is proved of the definitions.
pub mod Room
pub mod Agree
