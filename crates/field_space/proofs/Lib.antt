pub mod FrobeniusRounds
pub mod LevelShifts
pub mod PowerItems
pub mod Spaces
mod LinearizedLemmas
