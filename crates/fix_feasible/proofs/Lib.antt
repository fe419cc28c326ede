-- What the library answers of a chain over the heads.
pub mod Chains
