pub mod Pairs
pub mod Rooms
pub mod Works
pub mod Keeps
pub mod Nets
