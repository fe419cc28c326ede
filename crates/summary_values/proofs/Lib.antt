-- What the library answers of lists and arrays, in the words of the definitions.
pub mod Answered
