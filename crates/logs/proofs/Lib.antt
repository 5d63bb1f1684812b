pub mod Batches
mod Counts
pub mod Lowest
mod Rankings
mod Tables
