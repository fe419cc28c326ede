-- What a member gives where it is quiet, and the least set that holds some members and is closed under it; the laws stand in proofs/.
pub mod Closure
