-- What is proved of the definitions.
pub mod Loop
pub mod Agree
