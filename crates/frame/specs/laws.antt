-- What is proved of the definitions.
pub mod Agree
pub mod Canonical
pub mod Decoded
pub mod RoundTrip
pub mod Written
