-- What a line is made of, and what the routines of this crate are handed.
pub mod Laying
