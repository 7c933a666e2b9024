-- How the code's arrays and numbers stand for what the definitions say.
pub mod Lowest
