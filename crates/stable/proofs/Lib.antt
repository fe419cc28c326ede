-- The definitions over words are those over sets of literals, and what the check answers is so.
pub mod Readings
pub mod Decides
pub mod Checking
pub mod Answers
