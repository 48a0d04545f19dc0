pub mod BookRule
pub mod Knowing
pub mod Words
