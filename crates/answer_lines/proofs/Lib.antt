pub mod AtHand
pub mod Chains
pub mod Joined
pub mod Sold
pub mod OfNoAsk
pub mod Apart
