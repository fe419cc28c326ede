-- What the recursion over the tree promises; the laws stand in proofs/.
pub mod Seek
