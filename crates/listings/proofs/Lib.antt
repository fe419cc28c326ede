-- The laws of the lines of models: their pieces, and how long they are.
pub mod Models
pub mod Bounds
