-- What proofs of impls cite of these definitions: no contract names it.
pub mod State
pub mod Tags
