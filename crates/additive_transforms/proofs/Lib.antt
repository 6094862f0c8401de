pub mod BasisPolynomials
pub mod BlockPoints
pub mod BlockStages
pub mod Butterflies
pub mod CantorSums
pub mod Carries
mod ChunkProducts
pub mod ColumnStages
pub mod Counts
pub mod DepthFirst
pub mod ElementPoints
pub mod ElementStages
mod Exchanges
pub mod HalfValues
mod ImageBlocks
pub mod ImageValues
mod LaneFacts
pub mod LaneProducts
pub mod LaneStages
mod LaneWeaving
pub mod LaneWords
mod LevelProducts
pub mod LowStageRuns
pub mod NumberValues
pub mod OneOrigin
pub mod PairCounts
pub mod PairLoops
pub mod PointSums
mod ScalarHalves
mod Scalars
pub mod StagesFrom
pub mod SubspaceSteps
mod Tables
pub mod TwiddleWidths
mod UnitFacts
mod VectorPairs
pub mod WholeStages
mod WordPlaces
mod WordRows
pub mod WordSteps
pub mod Written
