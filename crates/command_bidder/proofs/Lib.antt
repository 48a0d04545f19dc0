pub mod Bidders
mod FirstLines
mod Returned
mod Served
