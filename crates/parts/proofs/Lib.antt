-- Laws of the literal parts, collected and written.
pub mod Collecting
