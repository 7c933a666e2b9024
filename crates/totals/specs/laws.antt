-- What is proved of the definitions.
pub mod Scans
pub mod Agree
