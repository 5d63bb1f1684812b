pub mod Agrees
pub mod Puts
pub mod Kept
pub mod Heard
