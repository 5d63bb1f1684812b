pub mod Uniformity
