pub mod Requests
pub mod Answers
pub mod Lanes
pub mod Gathering
pub mod Lasts
