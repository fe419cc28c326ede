-- What is proved of the test of a node.
pub mod Words
pub mod Asking
pub mod Descending
pub mod ByColumns
