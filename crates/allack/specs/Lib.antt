pub mod Counts
pub mod AllAck
pub mod Made
pub mod Keeps
pub mod Completes
pub mod Means
