pub mod Masked
pub mod Tail
pub mod Spread
pub mod Karatsuba
pub mod Compact
pub mod DoubleWords
