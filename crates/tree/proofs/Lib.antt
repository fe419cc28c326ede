-- What is proved of the tree and of the runs over it; `Support`, `Runs` and `Before` say what a reader wants to know.
pub mod Samples
pub mod Nodes
pub mod Support
pub mod Machine
pub mod Ends
pub mod Runs
pub mod Before
