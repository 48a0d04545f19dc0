pub mod ConnDisks
pub mod ConnEnds
pub mod Connected
pub mod ConnCounts
pub mod ConnOutputs
pub mod LanesTo
pub mod Outcomes
pub mod Commands
pub mod Beginnings
pub mod PlainWords
pub mod Outputs
pub mod Words
mod Documents
mod LinkLanes
mod Ends
mod ServedRuns
mod NetworkCommands
