-- Lemmas on plain values that several proofs of this crate use.
pub mod Buckets
pub mod Sorts
pub mod Words
