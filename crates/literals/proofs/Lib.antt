-- Laws of the literals of a word.
pub mod Literals
pub mod Stepping
