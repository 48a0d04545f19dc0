pub mod Documents
pub mod Readings
pub mod Answers
pub mod Checks
pub mod Runs
