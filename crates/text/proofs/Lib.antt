-- The laws that the other crates cite; RoundTrip, Samples and Writings have the theorems.
pub mod Lists
pub mod Values
pub mod Names
pub mod Tests
pub mod Fits
pub mod Books
pub mod Words
pub mod Tables
pub mod Accepts
pub mod RoundTrip
pub mod Writings
pub mod Samples
