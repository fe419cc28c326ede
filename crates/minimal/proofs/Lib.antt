-- Laws of the routines that select the minimal models.
pub mod Selecting
pub mod Earlier
