-- The laws of the clause lines; Reading has those that the reader cites.
pub mod Gathering
pub mod Reading
