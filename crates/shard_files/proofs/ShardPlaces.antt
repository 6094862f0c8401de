-- Places of shards of one size, which stand one after the other.
use Rattle.std.proofs.Common.{◌≡◌, ℕ, ◌+◌, ◌*◌, ◌<◌, ◌≤◌, arith}
use Rattle.std.proofs.Math.Nat.{mul-le-mul_right}

-- a shard stands within the bytes of all
pub shard_room : (index total size bytes : ℕ) → index < total → bytes ≡ total * size → index * size + size ≤ bytes
shard_room index total size bytes within long =
    let more = mul-le-mul_right size (next within) in omega (arith, more, long, one_more index size)
  where
    next : index < total → index + 1 ≤ total
    next h = omega (arith, h)

    one_more : (i n : ℕ) → (i + 1) * n ≡ i * n + n
    one_more i n = omega arith
