pub mod Entries
pub mod Answers
pub mod Steps
pub mod Lengths
