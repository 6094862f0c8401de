mod AddedBlocks
mod BlockLemmas
mod DigitMultiples
mod HornerProducts
mod RunStages
mod ShiftedBytes
mod SliceLemmas
mod SplitProducts
mod TabledProducts
mod TwoBlocks
pub mod CantorValues
pub mod FourProducts
pub mod GhashVectors
pub mod LowRuns
pub mod Places
pub mod RunPlaces
pub mod SliceBlocks
pub mod StageSums
pub mod WordValues
