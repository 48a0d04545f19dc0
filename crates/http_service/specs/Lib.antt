pub mod Bodies
pub mod Replies
pub mod Connections
pub mod Steps
pub mod ConnectionRuns
