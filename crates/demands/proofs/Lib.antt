-- The theorems of the three demands, that a held clause is passed over, and what a constraint takes away.
pub mod Outcomes
pub mod Searching
pub mod Fixing
pub mod Demand1
pub mod Demand2
pub mod Demand3
pub mod PassedOver
pub mod TakesAway
