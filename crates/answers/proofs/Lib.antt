-- The laws of this crate's functions.
pub mod Cases
pub mod Others
