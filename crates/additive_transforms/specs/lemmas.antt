-- What proofs of impls cite of these definitions: no contract names it.
pub mod Chunk
pub mod Image
pub mod Lane
pub mod LevelVector
pub mod Pair
pub mod Counting
