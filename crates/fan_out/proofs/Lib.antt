pub mod Lasts
pub mod Worked
pub mod Turns
