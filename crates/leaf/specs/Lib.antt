-- Clauses in one array, and the test of a live leaf; the laws stand in proofs/.
pub mod Packed
pub mod Leaf
