-- The powers of a key by which four blocks are multiplied at once.
use Rattle.std.specs.Prelude.{◌≡◌, ℕ, List, bit_xor}
use Rattle.tags.specs.Reversed.{ghash_times}
use Rattle.tags.specs.declared.blocks.Powers.{Powers}

-- the key and its powers up to the fourth, each the one before it times the key
abbrev pub ArePowers : ℕ → Powers → Type 0
ArePowers key powers =
    (powers.key ≡ key) × (powers.square ≡ ghash_times key key) × (powers.cube ≡ ghash_times powers.square key)
    × (powers.fourth ≡ ghash_times powers.cube key)

-- a hash after one block more, whose element is given
abbrev pub added_block : (List ℕ → ℕ) → ℕ → ℕ → List ℕ → ℕ
added_block element key sum block = ghash_times (bit_xor sum (element block)) key
