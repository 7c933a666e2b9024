-- What is proved of the definitions.
pub mod Agree
pub mod PartSizes
pub mod Sums
pub mod Turn
