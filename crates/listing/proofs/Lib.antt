pub mod Ranks
mod Whole
mod Words
