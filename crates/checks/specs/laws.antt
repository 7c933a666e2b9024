-- What is proved of the definitions.
pub mod Agree
pub mod Check
pub mod Steps
pub mod Writes
