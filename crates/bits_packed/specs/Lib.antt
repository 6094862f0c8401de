pub mod BitMatrices
pub mod BytesAsBits
pub mod Lanes
pub mod Rounds
pub mod lemmas
