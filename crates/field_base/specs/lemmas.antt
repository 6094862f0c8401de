-- What proofs of impls cite of these definitions: no contract names it.
pub mod BitRing
pub mod Bit
pub mod Operators
pub mod Room
