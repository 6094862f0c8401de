pub mod GrowingNumbers
pub mod LowBytes
pub mod Placing
pub mod Progress
pub mod Rows
pub mod Streaming
pub mod Taking
mod Wide
pub mod WordBytes
pub mod Wording
