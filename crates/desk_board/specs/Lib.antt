pub mod Boards
pub mod Tending
pub mod Rooms
