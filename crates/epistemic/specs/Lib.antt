-- Positive programs with their stages, and the epistemic transform, over any atoms; the theorems stand in proofs/.
pub mod Positive
pub mod Transform
