-- The run of the stages on words, and what is taken of the last; the laws stand in proofs/.
pub mod Run
pub mod Minimal
