-- What is said of a file of records; the laws stand in proofs/.
pub mod Records
