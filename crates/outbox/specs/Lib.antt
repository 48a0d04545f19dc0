pub mod Bids
pub mod Posts
pub mod Rows
pub mod Following
pub mod Keeping
pub mod Steps
pub mod Calls
pub mod Pumping
