-- The operator on words; the laws stand in proofs/.
pub mod Operator
