-- A message as blocks of 16 bytes (NIST SP 800-38D, section 6.4; RFC 8452, section 4). A byte is a number below 256; a block is
-- a list of 16 bytes.
use Rattle.std.specs.Prelude.{◌≡◌, ℕ, zero, suc, ◌+◌, ◌-◌, ◌*◌, ◌/◌, ◌%◌, ◌<◌, List, [], ◌∷◌, ◌++◌, length, take, drop, replicate, All}
use Rattle.std.specs.Int.{to_be_bytes, to_le_bytes, w64}

-- each element is a byte
abbrev pub AreBytes : List ℕ → Type 0
AreBytes bytes = All (λ byte. byte < 256) bytes

-- 16 bytes
abbrev pub IsBlock : List ℕ → Type 0
IsBlock block = (length block ≡ 16) × AreBytes block

-- bytes 16 i to 16 i + 15 of a message; past its end they are zero
abbrev pub block : List ℕ → ℕ → List ℕ
block message i = take 16 (drop (i * 16) message ++ replicate 16 0)

-- the first n blocks of a message, in order
unfoldable pub first_blocks : ℕ → List ℕ → List (List ℕ)
first_blocks zero message = []
first_blocks (suc n) message = first_blocks n message ++ block message n ∷ []

-- the blocks of a message, the last one filled up with zeros
abbrev pub blocks_of : List ℕ → List (List ℕ)
blocks_of message = first_blocks ((length message + 15) / 16) message

-- a message with as many zeros as make it whole blocks
abbrev pub zero_padded : List ℕ → List ℕ
zero_padded message = message ++ replicate ((16 - length message % 16) % 16) 0

-- the block of two lengths in bytes, each in bits, as 8 bytes, the highest first
abbrev pub block_of_lengths : ℕ → ℕ → List ℕ
block_of_lengths associated_length text_length = to_be_bytes w64 (associated_length * 8) ++ to_be_bytes w64 (text_length * 8)

-- the last block that GCM hashes: how many bits the associated data and the text have
abbrev pub lengths_block : List ℕ → List ℕ → List ℕ
lengths_block associated text = block_of_lengths (length associated) (length text)

-- what GCM hashes: the blocks of the associated data, those of the text, and the block of lengths (NIST SP 800-38D,
-- section 7.1)
abbrev pub gcm_blocks : List ℕ → List ℕ → List (List ℕ)
gcm_blocks associated text = blocks_of associated ++ blocks_of text ++ lengths_block associated text ∷ []

-- what GCM-SIV hashes: `gcm_blocks` of the plain text, but each length with its lowest byte first (RFC 8452, section 4)
abbrev pub gcm_siv_blocks : List ℕ → List ℕ → List (List ℕ)
gcm_siv_blocks associated text =
    blocks_of associated ++ blocks_of text ++ (to_le_bytes w64 (length associated * 8) ++ to_le_bytes w64 (length text * 8)) ∷ []
