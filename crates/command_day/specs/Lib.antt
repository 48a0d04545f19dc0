pub mod Days
pub mod Runs
pub mod Steps
