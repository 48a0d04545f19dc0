pub mod Spelling
pub mod Rows
pub mod Meanings
pub mod Taken
pub mod Helps
pub mod Network
pub mod NetworkTaken
pub mod Paths
