-- Laws of the operator, and of the routines that form a stage.
pub mod Operator
pub mod Choosing
pub mod Stepping
