-- (b), (c) and (d) of a clause; the laws stand in proofs/.
pub mod Parts
