pub mod Cantor
pub mod Columns
pub mod Generators
pub mod Linear
pub mod LinearMap
pub mod Matrix
pub mod Nibbles
pub mod Tables
