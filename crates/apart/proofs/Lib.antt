-- Lemmas on plain values that several proofs of this crate use.
pub mod Chains
pub mod Lowest
pub mod Sweeps
pub mod Queues
