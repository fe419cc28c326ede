-- Laws of clauses put one behind the other.
pub mod Emit
