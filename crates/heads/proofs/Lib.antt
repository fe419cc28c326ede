-- Laws of the sets made of one literal of each of some heads, and of the routines that enumerate them.
pub mod Tests
pub mod Picks
pub mod Loops
pub mod Reaching
pub mod Scanning
pub mod Rules
