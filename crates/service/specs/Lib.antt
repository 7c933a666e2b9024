pub mod Service
pub mod Stream
pub mod Strike
pub mod Fresh
pub mod Span
pub mod Examples
