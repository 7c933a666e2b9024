-- What is proved of the definitions.
pub mod Agree
pub mod Laws
pub mod Numbers
pub mod Points
pub mod Sizes
pub mod Sums
