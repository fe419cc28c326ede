-- The laws of the summary; Meaning has the theorems.
pub mod Laws
pub mod Meaning
