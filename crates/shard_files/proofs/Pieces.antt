-- The parts of a piece.
use Rattle.std.proofs.Common.{◌≡◌, ℕ, ◌+◌, List, ◌++◌, length, take, drop, sym, ◌∙◌, ap, arith}
use Rattle.std.specs.Int.{w64, to_le_bytes}
use Rattle.std.proofs.lemmas.List.{drop_at, length-append, take-append-drop, take_at}
use Rattle.sha2.proofs.Facts256.{length-sha256}
use Rattle.shard_files.specs.Pieces.{piece_bytes, piece_digest}

digest_size : (head : List ℕ) (stripe : ℕ) (shard : List ℕ) → length (piece_digest head stripe shard) ≡ 32
unfolding piece_digest
digest_size head stripe shard = length-sha256 (head ++ to_le_bytes w64 stripe ++ shard)

module _ (head : List ℕ) (stripe : ℕ) (shard : List ℕ) where
  pub piece_size : length (piece_bytes head stripe shard) ≡ 32 + length shard
  unfolding piece_bytes
  piece_size =
      let whole = length-append (piece_digest head stripe shard) shard in
      omega (arith, whole, digest_size head stripe shard)

  -- a piece has its digest, and behind it the bytes of the shard
  pub piece_front : take 32 (piece_bytes head stripe shard) ≡ piece_digest head stripe shard
  unfolding piece_bytes
  piece_front = take_at (piece_digest head stripe shard) shard 32 (digest_size head stripe shard)

  pub piece_rest : drop 32 (piece_bytes head stripe shard) ≡ shard
  unfolding piece_bytes
  piece_rest = drop_at (piece_digest head stripe shard) shard 32 (digest_size head stripe shard)

-- bytes are a piece exactly where they begin with the digest of those behind it
pub is_piece_of : (head : List ℕ) (stripe : ℕ) (bytes : List ℕ) → take 32 bytes ≡ piece_digest head stripe (drop 32 bytes)
    → bytes ≡ piece_bytes head stripe (drop 32 bytes)
unfolding piece_bytes
is_piece_of head stripe bytes front = sym (take-append-drop 32 bytes) ∙ ap (λ (l : List ℕ). l ++ drop 32 bytes) front
