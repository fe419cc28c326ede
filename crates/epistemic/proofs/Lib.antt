-- Theorems 2.14 and 3.6, over any atoms and over words.
pub mod Decisions
pub mod Stages
pub mod Kappa
pub mod Shrinking
pub mod Fixpoint
pub mod Words
pub mod Rename
pub mod Naming
pub mod WordMain
pub mod Masks
pub mod Slots
