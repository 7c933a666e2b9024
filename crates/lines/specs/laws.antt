-- What is proved of the definitions.
pub mod LineLaws
pub mod Agree
