-- The epistemic transform of a program on words; the laws stand in proofs/.
pub mod Transform
pub mod Listing
