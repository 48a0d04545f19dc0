pub mod Lines
pub mod Reading
pub mod Refusals
pub mod Taking
pub mod Whole
pub mod Assignments
pub mod Certificates
