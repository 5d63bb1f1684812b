pub mod Wires
pub mod Items
pub mod Taken
