pub mod Board
pub mod Made
pub mod Keeps
pub mod Changes
pub mod Means
