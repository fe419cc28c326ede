-- Laws of the routines that count stand-ins and members.
pub mod Counting
