-- Lemmas on plain values that several proofs of this crate use.
pub mod Now
