pub mod Choice
pub mod Settling
pub mod Passes
