pub mod Records
pub mod Combining
pub mod Texts
