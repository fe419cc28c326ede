-- The laws of what several words print.
pub mod Texts
