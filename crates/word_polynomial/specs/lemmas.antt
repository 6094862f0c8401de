-- What proofs of impls cite of these definitions: no contract names it.
pub mod CubicField
pub mod CubicRing
pub mod Field192
pub mod Triple
