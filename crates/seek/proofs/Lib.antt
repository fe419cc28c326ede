-- The laws of the recursion over the tree.
pub mod Multiples
pub mod Seeking
pub mod Handing
pub mod Visits
pub mod Climbing
pub mod Ways
