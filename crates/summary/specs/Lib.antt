-- What a summary shows.
pub mod Summary
pub mod Meaning
