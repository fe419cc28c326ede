-- Laws of rising sets, and of the routines that put a word into a set.
pub mod RisingSets
pub mod Slices
pub mod Runs
pub mod Merging
pub mod Growing
pub mod Inserting
pub mod Adding
pub mod Finding
