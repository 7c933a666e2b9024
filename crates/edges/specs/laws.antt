-- What is proved of the definitions.
pub mod Ascending
pub mod EdgeLaws
pub mod Tallies
pub mod Agree
