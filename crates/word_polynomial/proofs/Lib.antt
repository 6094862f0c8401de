mod LooksAhead
pub mod Fermat
pub mod Products
mod ShiftAndAdd
pub mod Sums
