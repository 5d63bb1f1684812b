pub mod Accepted
pub mod Options
pub mod Lists
