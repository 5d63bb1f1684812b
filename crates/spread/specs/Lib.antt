pub mod Counts
pub mod Spread
pub mod Made
pub mod Seen
