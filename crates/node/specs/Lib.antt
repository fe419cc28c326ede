-- What the test of a node is handed, and the test by columns; the laws stand in proofs/.
pub mod Node
pub mod ByColumns
