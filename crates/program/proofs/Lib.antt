-- The laws that the other crates cite.
pub mod Values
pub mod Places
pub mod Validity
pub mod Lowest
pub mod Picking
pub mod Chosen
pub mod Days
pub mod Nine
pub mod NineRules
