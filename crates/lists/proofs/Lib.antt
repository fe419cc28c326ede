-- The laws that the other crates cite.
pub mod Pieces
pub mod Loops
pub mod Writing
pub mod Padding
pub mod Filling
