pub mod Agreeing
pub mod Answered
pub mod Billed
pub mod Charges
pub mod Decided
pub mod Delivered
pub mod Fronts
pub mod Budgets
pub mod Keeping
pub mod Kept
pub mod Longer
pub mod Named
pub mod Owned
pub mod Played
pub mod Pumped
pub mod Requests
pub mod Rosters
pub mod Sent
pub mod Stepping
pub mod Telling
pub mod Tried
mod PairsRead
mod Escapes
mod Queries
mod Told
pub mod ReadBack
mod NamedTypes
pub mod Templates
pub mod UrlParts
pub mod UrlQueries
pub mod Bases
pub mod OneRequest
pub mod MadeRequests
pub mod Targets
pub mod UrlPaths
pub mod Heard
pub mod Pairs
pub mod Sums
pub mod Statuses
pub mod Ruled
pub mod BillPages
pub mod Counted
pub mod Growing
pub mod PumpedSums
pub mod Bids
pub mod Awards
pub mod Settling
pub mod Equal
