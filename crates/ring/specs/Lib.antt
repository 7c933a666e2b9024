pub mod Entries
pub mod Polygon
pub mod Position
pub mod held
pub mod laws
