pub mod Coefficients
pub mod Element
pub mod Changes
pub mod GhashLanes
pub mod lemmas
