-- What is proved of the definitions.
pub mod Agree
pub mod Axes
pub mod Common
pub mod Found
pub mod Meet
pub mod Neighbours
pub mod Numbers
pub mod OneLine
pub mod PlaneTurn
pub mod Share
pub mod Sharing
pub mod Sizing
pub mod Stretches
