pub mod Stacks
pub mod Reports
pub mod Long
