-- The laws of the opening's tests.
pub mod Opening
