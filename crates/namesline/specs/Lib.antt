-- What is said of a names line; the laws stand in proofs/.
pub mod NamesLine
