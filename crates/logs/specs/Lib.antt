pub mod Orders
pub mod Tables
