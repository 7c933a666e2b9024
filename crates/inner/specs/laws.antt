-- What is proved of the definitions.
pub mod Agree
pub mod Examples
pub mod One
pub mod Rows
