pub mod Knowing
pub mod Beginnings
pub mod Putting
