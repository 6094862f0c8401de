pub mod BilinearProducts
mod BitIdentities
mod BitNullRows
mod BitPivots
mod BitRows
mod BlockRows
mod BitTransposes
mod EightRows
mod FourRowTables
pub mod Interleavings
mod LaneAccess
mod LaneLists
mod MaskedSums
mod PendingSums
mod RoundPairs
mod Rounds
mod SumsProducts
mod WeightedBits
mod WordColumns
mod WordRanges
