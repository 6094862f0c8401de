-- The code of a layout has the numbers of its origin.
use Rattle.std.proofs.Common.{◌≡◌, ℕ, ◌+◌, ◌*◌, subst}
use Rattle.shard_files.specs.Stripes.{shard_total}
use Rattle.shard_files.specs.declared.layout.Layout.{Layout}

-- what is said of the numbers of the code is said of those of the origin
pub of_origin : (layout : Layout) (P : ℕ → ℕ → ℕ → ℕ → Type 0)
    → P layout.code.number layout.code.data_shards layout.code.parity_shards layout.code.size
    → P layout.origin.code layout.origin.data_shards layout.origin.parity_shards layout.origin.size
of_origin layout P is =
    let code = layout.code in
    let origin = layout.origin in
    subst (λ (n : ℕ). P n origin.data_shards origin.parity_shards origin.size) layout.made.0
    (subst (λ (n : ℕ). P code.number n origin.parity_shards origin.size) layout.made.1
    (subst (λ (n : ℕ). P code.number code.data_shards n origin.size) layout.made.2
    (subst (P code.number code.data_shards code.parity_shards) layout.made.3 is)))

-- and the other way round
pub of_code : (layout : Layout) (P : ℕ → ℕ → ℕ → ℕ → Type 0)
    → P layout.origin.code layout.origin.data_shards layout.origin.parity_shards layout.origin.size
    → P layout.code.number layout.code.data_shards layout.code.parity_shards layout.code.size
of_code layout P is =
    of_origin layout
    (λ n k m size. P n k m size → P layout.code.number layout.code.data_shards layout.code.parity_shards layout.code.size) (λ same. same) is

-- bytes of all shards are those of the code's
pub own_long : (layout : Layout) (bytes : ℕ) → bytes ≡ shard_total layout.origin * layout.origin.size
    → bytes ≡ (layout.code.data_shards + layout.code.parity_shards) * layout.code.size
own_long layout bytes long = of_code layout (λ n k m size. bytes ≡ (k + m) * size) long
