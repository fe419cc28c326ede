-- The laws of a clause line.
pub mod Rows
pub mod Weighing
