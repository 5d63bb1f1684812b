pub mod Known
pub mod Nets
