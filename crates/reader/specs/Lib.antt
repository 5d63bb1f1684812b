pub mod Sections
pub mod Files
pub mod Written
pub mod Says
