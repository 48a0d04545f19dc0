pub mod Turns
pub mod Places
pub mod Passes
pub mod Rule
pub mod Steps
pub mod Hand
