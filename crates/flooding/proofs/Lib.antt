pub mod Rooms
pub mod Turns
