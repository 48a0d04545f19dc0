pub mod BidIds
pub mod Forms
pub mod PriceLines
pub mod Answers
pub mod Ledger
pub mod Seen
pub mod LedgerState
