pub mod Lists
pub mod All
pub mod Least
pub mod laws
pub mod held
