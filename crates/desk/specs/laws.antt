-- What is proved of the definitions.
pub mod Rows
pub mod Dids
pub mod Agree
