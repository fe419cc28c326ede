-- Clauses put one behind the other; the laws stand in proofs/.
pub mod Emit
