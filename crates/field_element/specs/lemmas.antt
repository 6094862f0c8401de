-- What proofs of impls cite of these definitions: no contract names it.
pub mod BitProduct
pub mod GhashLane
pub mod LevelProduct
pub mod Range
pub mod Coefficients
pub mod Element
