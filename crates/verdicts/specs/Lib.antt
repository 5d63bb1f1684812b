pub mod Counts
pub mod Sentences
pub mod Law
