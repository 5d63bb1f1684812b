pub mod Lists
pub mod Invariant
pub mod Facts
pub mod Keeps
