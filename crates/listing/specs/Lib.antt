pub mod Listing
pub mod Long
