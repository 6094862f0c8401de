pub mod Parts
pub mod Narrow
pub mod Operators
pub mod Lanes
pub mod Packed
pub mod lemmas
