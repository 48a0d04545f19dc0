pub mod SmallSteps
mod NewPairs
