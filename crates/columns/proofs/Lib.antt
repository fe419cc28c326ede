-- The laws of columns.
pub mod Filling
pub mod Making
pub mod Again
