pub mod Fronts
pub mod Lists
pub mod Written
pub mod Steps
pub mod Running
pub mod Seen
pub mod Ended
pub mod OneConnection
