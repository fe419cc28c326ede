-- Laws of the stages and their run, and of the routines that go through them.
pub mod Bridge
pub mod Run
pub mod Minimal
pub mod Iterating
pub mod Taking
pub mod Closing
