pub mod Gathering
pub mod Replies
pub mod Written
pub mod Targets
pub mod Exchanging
