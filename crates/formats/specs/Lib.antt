pub mod Parts
pub mod Following
pub mod Formats
pub mod Numbers
pub mod Documents
pub mod Days
