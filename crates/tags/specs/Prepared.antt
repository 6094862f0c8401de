-- What a hash under a key goes by, as bytes: the powers of the element by which the field multiplies for the key.
use Rattle.std.specs.Prelude.{ℕ, List, ◌++◌}
use Rattle.std.specs.Int.{to_le_bytes, w128}
use Rattle.tags.specs.Reversed.{ghash_times}

-- the element and its powers up to the fourth, in this order, each the one before it times the element, as 16 bytes, the lowest first
unfoldable pub powers_as_bytes : ℕ → List ℕ
powers_as_bytes element =
    let square : ℕ = ghash_times element element in
    let cube : ℕ = ghash_times square element in
    to_le_bytes w128 element ++ to_le_bytes w128 square ++ to_le_bytes w128 cube ++ to_le_bytes w128 (ghash_times cube element)
