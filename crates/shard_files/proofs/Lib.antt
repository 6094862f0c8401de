mod Appended
mod Faults
mod Groups
mod Heads
mod InMemory
mod Joined
mod KnownCodes
mod Layouts
mod Lost
mod MatrixWords
mod OneSplit
mod Pieces
mod Positions
pub mod PresentCounts
mod Repaired
mod Restores
mod Returns
mod Scanned
pub mod ShardPlaces
mod Sizes
mod Splits
mod Splittable
mod TransformCalls
mod TransformWords
mod WordLoops
mod Written
