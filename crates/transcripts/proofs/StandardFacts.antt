-- Worked runs, over a state that is the list of what was observed and samples from a digest of three bytes.
use Rattle.std.proofs.Common.{◌≡◌, ℕ, List, [], ◌∷◌, length, refl}
use Rattle.transcripts.specs.ByteCalls.{after, Observe, Sample, squeezed}
use Rattle.transcripts.specs.HashBuffers.{hash_transitions}

-- the digest of a list of bytes: its length, 7 and 8
abbrev pub digest : List ℕ → List ℕ → List ℕ
digest hasher bytes = length bytes ∷ 7 ∷ 8 ∷ []

-- from an empty input: two samples from the end of the digest of nothing, a byte that drops what is left of the output and goes
-- behind the digest, which has become the input, and four samples, of which the last is from the digest of the digest
pub samples_and_observations : squeezed (hash_transitions digest)
    (Sample ∷ Sample ∷ Observe 9 ∷ Sample ∷ Sample ∷ Sample ∷ Sample ∷ []) ([], [], []) ≡ 8 ∷ 7 ∷ 8 ∷ 7 ∷ 4 ∷ 8 ∷ []
unfolding squeezed
samples_and_observations = refl

-- the buffers after two samples and a byte
pub buffers_after : after (hash_transitions digest) (Sample ∷ Sample ∷ Observe 9 ∷ []) ([], [], [])
    ≡ ([], 0 ∷ 7 ∷ 8 ∷ 9 ∷ [], [])
unfolding after
buffers_after = refl
