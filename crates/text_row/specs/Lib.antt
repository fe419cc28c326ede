-- What is said of a clause line; the laws stand in proofs/.
pub mod Rows
