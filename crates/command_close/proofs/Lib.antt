pub mod Steps
pub mod OneDocument
pub mod OneGuarantee
pub mod Checked
