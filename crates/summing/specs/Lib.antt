-- What `summary` says of a table.
pub mod Texts
