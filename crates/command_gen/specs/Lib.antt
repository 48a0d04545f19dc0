pub mod Generated
pub mod GeneratedEnds
pub mod Taking
pub mod Disks
