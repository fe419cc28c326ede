-- What `hold` and `keep` say of a table.
pub mod Texts
