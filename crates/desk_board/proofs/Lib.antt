pub mod Meeting
mod Boards
mod Tending
mod Rooms
