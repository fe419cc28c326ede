-- Laws of what a member gives, and of the routine that closes a set.
pub mod Gives
pub mod Closing
