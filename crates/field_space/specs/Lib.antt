pub mod Items
pub mod PowerItems
pub mod Vectors
pub mod lemmas
pub mod Linearized
pub mod Polynomial
