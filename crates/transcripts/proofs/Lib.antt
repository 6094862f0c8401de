mod Binding
mod CapPaths
mod Drawn
mod NodeCounts
mod OpenedLeaves
mod OpeningPaths
mod OpeningTrees
mod OpeningTurns
mod Outcomes
mod PathChecks
mod Paths
mod Roots
mod Statements
pub mod Buffers
pub mod GuardedLemmas
pub mod ListLemmas
pub mod ObservedLists
pub mod Runs
pub mod StandardFacts
