pub mod BlockLemmas
pub mod ByteTables
pub mod CantorVectors
mod ColumnLemmas
pub mod DigitMaps
pub mod FrobeniusFacts
pub mod GeneratorImages
mod HalfImages
mod ImageLemmas
pub mod Isomorphisms
pub mod LevelLaws
pub mod LinearMaps
mod Lookups
pub mod Orders
pub mod RepeatedSquares
pub mod RijndaelTables
pub mod RootImages
pub mod SliceSteps
pub mod SquareTables
pub mod Squares
pub mod TableFacts
pub mod TabledMaps
