-- What `check` says of a table.
pub mod Texts
