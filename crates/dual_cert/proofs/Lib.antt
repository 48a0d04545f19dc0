pub mod Rows
pub mod Documents
pub mod Pieces
pub mod Duality
pub mod Lists
