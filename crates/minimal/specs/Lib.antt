-- Which words satisfy every clause, and which of a list are minimal; the laws stand in proofs/.
pub mod Minimal
