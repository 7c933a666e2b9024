-- What is proved of the definitions.
pub mod Listing
pub mod Turned
pub mod Two
pub mod Words
