pub mod DayLines
pub mod OneScript
pub mod OneHead
pub mod OneOutput
pub mod SomeOutput
pub mod Ends
pub mod DiskCounts
pub mod CutLines
