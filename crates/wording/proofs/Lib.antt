-- The laws of a line of a word and numbers.
pub mod Words
pub mod Bounds
