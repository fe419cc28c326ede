-- The lines that are printed of a word and numbers.
pub mod Printed
