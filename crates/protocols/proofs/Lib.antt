pub mod BlockPlaces
mod CodeColumns
pub mod CodeDistances
pub mod CommitmentScheme
pub mod HonestColumns
pub mod HonestOpenings
pub mod HonestTables
pub mod JointTables
pub mod OpenedColumns
pub mod OpenedTables
pub mod ProductSums
pub mod ProofBytes
mod RootColumns
mod SchemeBits
pub mod SchemeRuns
pub mod SchemeTurns
pub mod SoundnessErrors
pub mod StackedTables
pub mod TableLaws
pub mod TableOpenings
mod TableRows
mod TablesBound
mod Words
