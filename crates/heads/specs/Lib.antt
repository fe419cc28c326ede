-- The sets made of one literal of each of some heads; the laws stand in proofs/.
pub mod Heads
