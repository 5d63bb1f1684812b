pub mod Lowest
mod Settles
