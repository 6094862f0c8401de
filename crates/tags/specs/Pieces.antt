-- Messages in pieces: what GCM hashes is a message of three.
use Rattle.std.specs.Prelude.{◌≡◌, ℕ, List, ◌++◌}
use Rattle.tags.specs.Blocks.{block_of_lengths, blocks_of, gcm_blocks, lengths_block, zero_padded}
use Rattle.tags.specs.Gcm.{ghash}

-- GHASH of a message, zeros to whole blocks, and the block of two lengths in bytes
abbrev pub hash_with_lengths : ℕ → ℕ → List ℕ → List ℕ → List ℕ
hash_with_lengths associated_length text_length key message =
    ghash key (blocks_of (zero_padded message ++ block_of_lengths associated_length text_length))

-- the blocks that GCM hashes of associated data and text are those of one message: the associated data and the text, zeros added behind each to
-- whole blocks, and the block of their lengths
abbrev pub GcmIsMessage : Type 0
GcmIsMessage = (associated text : List ℕ)
    → blocks_of (zero_padded (zero_padded associated ++ text) ++ lengths_block associated text) ≡ gcm_blocks associated text
