mod Shown
mod Rounds
mod Workers
mod Finished
mod Days
mod Begun
pub mod Shared
