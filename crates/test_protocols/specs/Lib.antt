pub mod ProofSystem
