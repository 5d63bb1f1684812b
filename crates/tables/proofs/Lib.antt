pub mod Written
pub mod Free
pub mod Changes
