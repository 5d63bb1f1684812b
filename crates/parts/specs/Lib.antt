pub mod Views
pub mod Refusals
pub mod Cases
pub mod Nets
pub mod Broadcasting
pub mod Deciding
pub mod Shown
