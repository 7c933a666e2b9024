-- What is proved of the definitions.
pub mod Handlers
pub mod Refusals
pub mod Short
pub mod Room
pub mod History
pub mod Strike
pub mod Fresh
pub mod Span
pub mod Across
pub mod TwoUsers
pub mod Entry
