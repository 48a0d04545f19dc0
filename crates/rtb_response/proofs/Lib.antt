pub mod BidNames
pub mod Passed
pub mod Chains
pub mod Seats
pub mod Counts
