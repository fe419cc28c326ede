-- What holding, keeping and releasing a clause answer.
pub mod Holding
pub mod Clearing
