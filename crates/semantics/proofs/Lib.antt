-- What is proved of Definitions 2.1 and 3.1 over sets of literals, and that the sample books come out as document 01 has them.
pub mod FourValues
pub mod Constraints
pub mod Within
pub mod BooksHold
