-- What the fixpoint answers and lists; the laws and theorems stand in proofs/.
pub mod Answer
