-- The state of a challenger over a hash function: the hasher, the input, which is hashed next, and the output, which is what is
-- left of a digest. Input and output are lists of bytes, and the output is used up from its end.
use Rattle.std.specs.Prelude.{◌-◌, ℕ, List, [], ◌∷◌, ◌++◌, length, slice_index, take}
use Rattle.transcripts.specs.ByteCalls.{Transitions}

-- hasher, input and output
abbrev pub HashState : Type 0 → Type 0
HashState H = H × List ℕ × List ℕ

-- after a byte was observed: it is at the end of the input, and the output is dropped
abbrev pub hash_observed : {H : Type 0} → HashState H → ℕ → HashState H
hash_observed state byte = (state.0, state.1 ++ byte ∷ [], [])

-- the last byte of the output, and the state without it
abbrev pub last_taken : {H : Type 0} → HashState H → ℕ × HashState H
last_taken state = (slice_index state.2 (length state.2 - 1), (state.0, state.1, take (length state.2 - 1) state.2))

-- a sample, by the output: where it is empty, the digest of the input becomes both the output and the new input; then the
-- output's last byte is taken
abbrev pub hash_sampled_from : {H : Type 0} → (H → List ℕ → List ℕ) → H → List ℕ → List ℕ → ℕ × HashState H
hash_sampled_from digest hasher input [] = last_taken (hasher, digest hasher input, digest hasher input)
hash_sampled_from digest hasher input (byte ∷ bytes) = last_taken (hasher, input, byte ∷ bytes)

-- a sample, under the digests of a hasher and a list of bytes
abbrev pub hash_sampled : {H : Type 0} → (H → List ℕ → List ℕ) → HashState H → ℕ × HashState H
hash_sampled digest state = hash_sampled_from digest state.0 state.1 state.2

-- the transitions of a challenger over a hash function with these digests
abbrev pub hash_transitions : {H : Type 0} → (H → List ℕ → List ℕ) → Transitions (HashState H)
hash_transitions digest = record { observed = hash_observed; sampled = hash_sampled digest }
