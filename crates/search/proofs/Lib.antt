-- The laws of the ways that the search returns.
pub mod Returns
