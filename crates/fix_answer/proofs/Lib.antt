-- What the fixpoint finds, and laws of its routines.
pub mod Theorem
pub mod Lists
pub mod Ending
pub mod Size
pub mod Answering
