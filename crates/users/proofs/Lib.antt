pub mod laws
-- Lemmas on plain values that the proofs of this crate use.
pub mod Search
