-- What is proved of clauses in one array and of the leaf test.
pub mod Asking
pub mod Mentions
pub mod Packing
pub mod Subsets
pub mod Words
