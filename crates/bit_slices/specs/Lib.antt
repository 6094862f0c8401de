pub mod Lanes
pub mod Layout
pub mod Tails
pub mod Called
pub mod lemmas
