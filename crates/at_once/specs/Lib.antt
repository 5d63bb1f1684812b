pub mod AtOnce
pub mod Made
pub mod Changes
pub mod Means
