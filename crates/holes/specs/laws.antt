-- What is proved of the definitions.
pub mod Agree
pub mod Boxes
pub mod Examples
pub mod Meeting
pub mod Passes
pub mod Polygons
pub mod Some
pub mod Tables
