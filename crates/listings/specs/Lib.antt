-- The lines of a list of models.
pub mod Listing
