pub mod Chains
pub mod Lines
pub mod Events
pub mod Notes
pub mod Written
