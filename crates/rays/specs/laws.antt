-- What is proved of the definitions.
pub mod Agree
pub mod Examples
pub mod Flags
pub mod Seen
pub mod Signs
