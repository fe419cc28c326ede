-- What is said of the clause lines of a text; the laws stand in proofs/.
pub mod Gathered
