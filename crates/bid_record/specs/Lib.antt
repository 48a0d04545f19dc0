pub mod Lines
pub mod Reading
pub mod Records
pub mod Refusals
pub mod Taking
pub mod Texts
