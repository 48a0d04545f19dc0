pub mod FieldLists
pub mod Digits
pub mod Cuts
pub mod Hosts
pub mod Forms
mod Marks
pub mod FirstRequests
