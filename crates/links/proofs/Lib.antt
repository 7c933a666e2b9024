-- Lemmas on plain values that several proofs of this crate use.
pub mod Corners
pub mod Counts
pub mod Crossings
pub mod Ends
pub mod Firsts
pub mod Trails
