-- What the routines that put out the transform are handed and give; the laws stand in proofs/.
pub mod Rewriting
