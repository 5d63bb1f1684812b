pub mod Faults
pub mod Numbers
pub mod Parts
pub mod Fields
pub mod Written
