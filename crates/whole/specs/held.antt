-- How the code's arrays and numbers stand for what the definitions say.
pub mod Small
pub mod Spans
pub mod Stored
pub mod Rows
