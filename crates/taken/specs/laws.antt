-- What is proved of the definitions.
pub mod Agree
pub mod Buckets
pub mod Chains
pub mod Else
