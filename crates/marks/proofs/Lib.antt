-- What the loop of the pass cites.
pub mod Passed
