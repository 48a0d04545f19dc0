pub mod PostLines
pub mod Rosters
pub mod Statuses
pub mod Posting
