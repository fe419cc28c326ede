-- What is said of lists of bytes; the laws stand in proofs/.
pub mod Bytes
