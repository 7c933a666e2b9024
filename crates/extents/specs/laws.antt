-- What is proved of the definitions.
pub mod Copy
pub mod Sizing
pub mod Steps
