-- A program as a table, and which tables are valid, that is not refused by 9; the laws stand in proofs/.
pub mod Clauses
pub mod Days
pub mod Only
pub mod Held
pub mod Values
pub mod Names
pub mod Valid
pub mod Refusals
