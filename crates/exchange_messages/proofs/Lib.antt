pub mod Numbers
pub mod OneSale
pub mod Replied
pub mod Shown
pub mod Sold
pub mod Wanting
mod Answered
mod AskCalls
pub mod Requested
mod Changes
