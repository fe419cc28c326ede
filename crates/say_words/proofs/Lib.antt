-- The laws of what is printed, and what follows of it.
pub mod Printing
pub mod Outputs
