-- What the library answers of a chain, as a test on a list.
pub mod Chains
