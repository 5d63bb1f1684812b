pub mod Histories
pub mod Moves
