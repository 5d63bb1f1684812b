pub mod Contents
pub mod Written
pub mod Says
