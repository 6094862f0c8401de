-- What proofs of impls cite of these definitions: no contract names it.
pub mod ByteForm
pub mod Low
pub mod Named
pub mod Wide
