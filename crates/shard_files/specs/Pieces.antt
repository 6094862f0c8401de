-- What a shard's file has of one stripe: a digest, and the bytes of the shard in the stripe.
use Rattle.std.specs.Prelude.{ℕ, List, ◌++◌}
use Rattle.std.specs.Int.{w64, to_le_bytes}
use Rattle.sha2.specs.Sha256.{sha256}

-- the SHA-256 of the digest of the head, the number of the stripe as eight bytes, the lowest first, and the bytes (FIPS 180-4)
unfoldable pub piece_digest : List ℕ → ℕ → List ℕ → List ℕ
piece_digest head stripe shard = sha256 (head ++ to_le_bytes w64 stripe ++ shard)

-- the digest, and the bytes
unfoldable pub piece_bytes : List ℕ → ℕ → List ℕ → List ℕ
piece_bytes head stripe shard = piece_digest head stripe shard ++ shard
