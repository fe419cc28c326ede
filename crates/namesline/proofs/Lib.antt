-- The laws of the loops over a names line.
pub mod Items
