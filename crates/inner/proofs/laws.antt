-- What is proved of the definitions.
pub mod Checks
pub mod Kept
pub mod Met
pub mod Position
pub mod Tables
pub mod Turned
