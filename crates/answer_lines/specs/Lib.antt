pub mod Answers
pub mod Steps
pub mod Table
pub mod Apart
