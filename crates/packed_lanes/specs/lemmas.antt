-- What proofs of impls cite of these definitions: no contract names it.
pub mod BitImage
pub mod Chunk
pub mod Joined
pub mod LaneList
pub mod LaneRing
pub mod OneLane
pub mod Packed
