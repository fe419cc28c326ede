-- What is said of decimal numbers; the laws stand in proofs/.
pub mod Decimal
