pub mod SmallOpenings
pub mod SmallTables
