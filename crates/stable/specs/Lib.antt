-- The answer of the check; what is meant by p-stable stands in the crate semantics.
pub mod Check
