pub mod Tables
pub mod Walks
pub mod Levels
pub mod Programs
pub mod Rows
pub mod NetworkRows
pub mod Builds
pub mod HelpTexts
