-- What `fixpoint` says of a table.
pub mod Texts
