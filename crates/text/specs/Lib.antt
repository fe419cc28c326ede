-- The text of a program, and what a text is read as; the laws stand in proofs/.
pub mod Lines
pub mod Tables
pub mod Render
pub mod Refusals
pub mod Reading
pub mod Writing
pub mod Samples
