-- The literals of a word; the laws stand in proofs/.
pub mod Literals
pub mod Members
