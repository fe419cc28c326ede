-- Laws of the routines that put out the transform.
pub mod Becoming
pub mod Rewriting
