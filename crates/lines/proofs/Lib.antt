-- The laws of lines: pieces laid one behind the other, and how long lines are.
pub mod Laying
pub mod Going
pub mod Names
pub mod Bounds
pub mod Made
