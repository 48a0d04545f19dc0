pub mod Served
pub mod Unserved
pub mod Lanes
pub mod Rounds
pub mod Finishing
pub mod Beginning
pub mod Sharing
pub mod Showing
