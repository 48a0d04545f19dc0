mod Sold
mod RowLines
mod RowTrees
mod LedgerReads
mod Reconciled
pub mod DiskCounts
mod Courses
mod SameBills
mod Same
mod OneText
mod Agreed
mod Sums
mod Order
mod Cuts
mod Least
mod Walked
mod Written
