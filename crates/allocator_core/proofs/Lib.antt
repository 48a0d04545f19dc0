pub mod Lists
pub mod Sums
pub mod Choosing
pub mod Settled
