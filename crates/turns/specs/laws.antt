-- What is proved of the definitions.
pub mod Agree
pub mod Reversing
pub mod Rings
pub mod Turned
