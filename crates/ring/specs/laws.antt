-- What is proved of the definitions.
pub mod Agree
pub mod Rings
pub mod Repeated
pub mod Examples
pub mod Owners
pub mod Turned
