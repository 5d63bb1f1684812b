pub mod Runs
pub mod Tally
pub mod Law
pub mod Scripts
