-- What the transform is.
pub mod BooksHold
pub mod Theory
