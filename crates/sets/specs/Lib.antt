-- What is said of lists, words and least numbers; the laws stand in proofs/.
pub mod Lists
pub mod Words
pub mod Least
