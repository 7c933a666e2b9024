-- What is proved of the definitions.
pub mod Digits
pub mod Signed
pub mod Agree
pub mod Back
