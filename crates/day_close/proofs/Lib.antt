pub mod Accepted
pub mod Made
pub mod OneClosing
