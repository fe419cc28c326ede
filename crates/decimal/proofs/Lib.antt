-- The laws that the other crates cite.
pub mod Laws
pub mod Reading
