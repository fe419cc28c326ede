-- The laws that the other crates cite.
pub mod Tests
pub mod Lists
pub mod Rising
pub mod Least
pub mod Digits
pub mod Subsets
pub mod Branches
pub mod Highest
pub mod Gathering
pub mod Masks
