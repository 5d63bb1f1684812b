pub mod Reports
pub mod Examples
pub mod Files
pub mod Shelves
pub mod Worked
