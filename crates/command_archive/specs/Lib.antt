pub mod Endings
pub mod Keeps
pub mod Lists
pub mod Moneys
pub mod Puts
pub mod Rows
pub mod Lines
pub mod Courses
