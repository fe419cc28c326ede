-- What `search` says of a table.
pub mod Texts
