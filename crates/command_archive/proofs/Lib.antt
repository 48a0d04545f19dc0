mod Causes
mod Put
mod Kept
mod Listed
pub mod Statuses
pub mod Unbegun
mod Campaigns
mod Courses
mod DayRows
