pub mod Heads
pub mod Fields
pub mod Found
pub mod Judged
pub mod Requests
