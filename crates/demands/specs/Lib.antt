-- The members' three demands, each with the theorem of its name in proofs/, that a held clause is passed over, and what a constraint takes away.
pub mod Demand1
pub mod Demand2
pub mod Demand3
pub mod PassedOver
pub mod TakesAway
