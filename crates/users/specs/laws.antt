-- What is proved of the definitions.
pub mod Keeps
pub mod Examples
pub mod Agree
