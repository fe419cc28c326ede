-- How long the lines of a summary are.
pub mod Bounds
