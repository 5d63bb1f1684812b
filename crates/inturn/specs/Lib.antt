pub mod Turns
pub mod Layers
pub mod Models
pub mod Calls
pub mod Pushed
pub mod Counts
pub mod Tables
pub mod Means
