pub mod Even
pub mod Position
pub mod held
pub mod laws
