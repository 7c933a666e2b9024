-- What is proved of the definitions.
pub mod Word
pub mod Words
pub mod Sets
pub mod Agree
