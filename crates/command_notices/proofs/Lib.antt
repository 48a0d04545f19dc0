pub mod MoreLines
pub mod Posted
mod Tried
mod Ended
