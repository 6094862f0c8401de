pub mod Halves
pub mod Images
pub mod LowLevels
pub mod Squarings
