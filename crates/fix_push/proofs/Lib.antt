-- Laws of the routines that put out (b), (c) and (d).
pub mod Walk
pub mod Emitting
