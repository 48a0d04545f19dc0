pub mod Running
pub mod Passing
pub mod Together
pub mod Crossing
pub mod Steps
pub mod Taken
mod PassSteps
