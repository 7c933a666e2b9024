-- What is proved of the definitions.
pub mod Agree
pub mod Checks
pub mod Examples
pub mod Fan
pub mod FromNormal
pub mod Kept
pub mod Position
pub mod Rows
pub mod Taken
pub mod Triangle
pub mod TurnFinding
