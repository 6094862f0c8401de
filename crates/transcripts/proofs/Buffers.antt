-- The buffers of a challenger over a hash function: samples from an output that is a prefix of a digest.
use Rattle.std.proofs.Common.{◌≡◌, ◌<◌, ◌≤◌, ◌-◌, ℕ, List, [], ◌∷◌, length, take, slice_index, refl, arith, take_all}
use Rattle.std.proofs.lemmas.Grind.{common_steps}
use Rattle.transcripts.specs.HashBuffers.{last_taken, hash_sampled}

-- taking the last byte of the first n bytes of a digest gives byte n - 1 and leaves the first n - 1 (n > 0)
pub last_of_front : {H : Type 0} (hasher : H) (input digest : List ℕ) (count : ℕ) → 0 < count → count ≤ length digest
    → last_taken (hasher, input, take count digest) ≡ (slice_index digest (count - 1), (hasher, input, take (count - 1) digest))
last_of_front hasher input digest count some fits = grind (arith, common_steps)

-- from an empty output, a sample takes the last byte of the digest of the input
pub sampled_from_none : {H : Type 0} (digest_of : H → List ℕ → List ℕ) (hasher : H) (input digest old : List ℕ) (count : ℕ)
    → count ≡ 0 → digest ≡ digest_of hasher input → length digest ≡ 32
    → hash_sampled digest_of (hasher, input, take count old) ≡ last_taken (hasher, digest, take 32 digest)
sampled_from_none digest_of hasher input digest old count none digests whole =
    let all : take 32 digest ≡ digest = take_all 32 digest (omega arith) in
    rw (all, digests, none) refl

-- from an output that is not empty, a sample takes the output's last byte
sampled_from_rest : {H : Type 0} (digest_of : H → List ℕ → List ℕ) (hasher : H) (input output : List ℕ) → 0 < length output
    → hash_sampled digest_of (hasher, input, output) ≡ last_taken (hasher, input, output)
sampled_from_rest digest_of hasher input [] some = grind (arith, common_steps)
sampled_from_rest digest_of hasher input (byte ∷ bytes) some = refl

-- from the first n bytes of a digest, n > 0, a sample takes the last of them
pub sampled_from_front : {H : Type 0} (digest_of : H → List ℕ → List ℕ) (hasher : H) (input digest : List ℕ) (count : ℕ)
    → 0 < count → count ≤ length digest
    → hash_sampled digest_of (hasher, input, take count digest) ≡ last_taken (hasher, input, take count digest)
sampled_from_front digest_of hasher input digest count some fits =
    sampled_from_rest digest_of hasher input (take count digest) (grind (arith, common_steps))
