pub mod Held
pub mod Register
pub mod Made
pub mod Keeps
pub mod Changes
pub mod Means
