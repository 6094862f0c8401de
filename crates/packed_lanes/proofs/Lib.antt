pub mod BlockLemmas
pub mod BlockPlaces
pub mod EvenBlocks
pub mod FittingLanes
pub mod LaneLemmas
pub mod WordLists
pub mod NarrowParts
pub mod WideParts
pub mod PartLists
mod BitProducts
mod Blocks
pub mod LanePoints
