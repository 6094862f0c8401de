mod BlockSums
mod ColumnSteps
mod Refusals
mod RoundValues
pub mod Rows
pub mod Runs
pub mod Soundness
mod SumcheckStatements
mod SumcheckSteps
mod SumcheckWhole
mod TermSteps
mod ZeroChecks
mod ZeroRuns
mod ZeroSums
