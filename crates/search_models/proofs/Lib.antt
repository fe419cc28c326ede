-- The laws of the search's loop.
pub mod Turns
