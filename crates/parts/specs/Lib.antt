-- Words written over the start of a list; the laws stand in proofs/.
pub mod Overwriting
