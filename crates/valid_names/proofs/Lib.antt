-- The laws of the tests of this crate.
pub mod Ends
