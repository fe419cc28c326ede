-- Read in this order: the paper's definitions over sets of literals, the same over words, document 01's sample books.
pub mod Definitions
pub mod Interpretations
pub mod Books
