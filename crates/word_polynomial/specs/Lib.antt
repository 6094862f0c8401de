pub mod Cubic
pub mod Fits
pub mod Triple
pub mod lemmas
