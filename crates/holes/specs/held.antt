-- How the code's arrays and numbers stand for what the definitions say.
pub mod Boxes
pub mod Rings
pub mod Corners
