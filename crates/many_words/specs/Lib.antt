pub mod Fields
pub mod Maps
pub mod Places
pub mod Words
pub mod lemmas
