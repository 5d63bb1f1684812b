pub mod Sets
pub mod Kinds
pub mod Places
pub mod Labels
