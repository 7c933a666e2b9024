-- What is proved of the definitions.
pub mod Agree
pub mod Now
pub mod Turned
pub mod Ways
