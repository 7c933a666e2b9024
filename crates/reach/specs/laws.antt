-- What is proved of the definitions.
pub mod Marks
pub mod Joins
pub mod Joined
pub mod Agree
