-- The laws of this crate's functions.
pub mod Records
