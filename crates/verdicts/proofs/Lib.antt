pub mod Lists
pub mod Counts
