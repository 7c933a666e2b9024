-- What is proved of the definitions.
pub mod Agree
pub mod Beside
