pub mod Bidders
pub mod Serving
pub mod PriceLines
pub mod Documents
pub mod Connections
pub mod Bidding
pub mod Statuses
pub mod Turns
