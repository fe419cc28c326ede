-- The lines of a summary.
pub mod Summary
