pub mod Carrying
pub mod Calls
pub mod Cases
pub mod Models
