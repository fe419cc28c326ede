-- The vocabulary of a table; the laws stand in proofs/.
pub mod Vocabulary
