pub mod BidderSteps
pub mod PairsMore
pub mod CampaignSteps
pub mod ReplySteps
pub mod Order
pub mod Sought
pub mod RosterSteps
