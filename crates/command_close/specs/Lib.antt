pub mod ClosedDays
pub mod Guarantees
