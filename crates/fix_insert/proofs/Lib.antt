-- Laws of the place of a word, and of the members moved up.
pub mod Places
