-- Rows by column, and the rows in play; the laws stand in proofs/.
pub mod Columns
pub mod Play
