pub mod Happened
pub mod Lawful
