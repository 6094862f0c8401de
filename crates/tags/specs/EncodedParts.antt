-- What GCM and GCM-SIV hash of associated data and text: the blocks determine both, and few keys let two pairs of them collide (D. McGrew
-- and J. Viega, The security and performance of the Galois/Counter Mode, 2004, section 3). A part is a list of bytes.
use Rattle.std.specs.Prelude.{◌≡◌, ℕ, ◌^◌, ◌<◌, ◌≤◌, List, length, map, bit_xor}
use Rattle.std.specs.Int.{from_be_bytes, from_le_bytes, w128}
use Rattle.tags.specs.Blocks.{AreBytes, IsBlock, gcm_blocks, gcm_siv_blocks}
use Rattle.tags.specs.Collisions.{HaveSameBlocks}
use Rattle.tags.specs.Gcm.{ghash}
use Rattle.tags.specs.Polyval.{polyval}

-- bytes whose length in bits has 64 bits
abbrev pub IsPart : List ℕ → Type 0
IsPart bytes = AreBytes bytes × (length bytes < 2 ^ 61)

-- the encoding of two parts into blocks, which have these numbers, is injective, also where blocks of zeros in front do not count
unfoldable pub EncodesParts : (List ℕ → ℕ) → (List ℕ → List ℕ → List (List ℕ)) → Type 0
EncodesParts number encoded = (a t b u : List ℕ) → IsPart a → IsPart t → IsPart b → IsPart u
    → HaveSameBlocks (map number (encoded a t)) (map number (encoded b u)) → (a ≡ b) × (t ≡ u)

-- so it is for GCM, whose blocks are numbers of which the first byte is the highest
abbrev pub GcmEncodesParts : Type 0
GcmEncodesParts = EncodesParts (from_be_bytes w128) gcm_blocks

-- and for GCM-SIV, of whose blocks the first byte is the lowest
abbrev pub GcmSivEncodesParts : Type 0
GcmSivEncodesParts = EncodesParts (from_le_bytes w128) gcm_siv_blocks

-- of any different keys key 0, .., key (count - 1) under which two different pairs of parts, of at most n blocks with the one of lengths,
-- have hashes with this difference, there are at most n
unfoldable pub FewKeysCollide : (List ℕ → ℕ) → (List ℕ → List (List ℕ) → List ℕ) → (List ℕ → List ℕ → List (List ℕ)) → Type 0
FewKeysCollide number hash encoded = (n count difference : ℕ) (a t b u : List ℕ) (key : ℕ → List ℕ)
    → IsPart a → IsPart t → IsPart b → IsPart u → ((a ≡ b) × (t ≡ u) → ⊥)
    → length (encoded a t) ≤ n → length (encoded b u) ≤ n
    → ((i : ℕ) → i < count → IsBlock (key i)) → ((i j : ℕ) → i < count → j < count → key i ≡ key j → i ≡ j)
    → ((i : ℕ) → i < count → bit_xor (number (hash (key i) (encoded a t))) (number (hash (key i) (encoded b u))) ≡ difference)
    → count ≤ n

-- so it is for GCM
abbrev pub GcmCollides : Type 0
GcmCollides = FewKeysCollide (from_be_bytes w128) ghash gcm_blocks

-- and for GCM-SIV
abbrev pub GcmSivCollides : Type 0
GcmSivCollides = FewKeysCollide (from_le_bytes w128) polyval gcm_siv_blocks
