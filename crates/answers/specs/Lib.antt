-- What is said of answers as numbers; the laws stand in proofs/.
pub mod Answers
