-- What is printed on a book, by whatever word, and what each word prints.
pub mod Printing
pub mod Commands
