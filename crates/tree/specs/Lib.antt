-- The tree of a search, the test of its nodes, and what a run over it answers; the laws stand in proofs/.
pub mod Tree
pub mod NodeTest
pub mod Answer
pub mod Before
