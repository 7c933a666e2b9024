-- What is proved of the definitions.
pub mod Agree
pub mod Rings
pub mod Spans
pub mod Steps
