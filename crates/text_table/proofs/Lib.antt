-- The laws of the reader's loops and of its answers.
pub mod Names
pub mod Answers
