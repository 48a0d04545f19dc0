pub mod Holding
pub mod Places
pub mod Bare
pub mod Sought
mod Plain
pub mod Asked
pub mod Heard
pub mod Whole
