use Rattle.std.proofs.Common.{◌≡◌, ◌+◌, ◌*◌, ◌^◌, drop, map}
use Rattle.std.specs.Prelude.{bit_xor}
use Rattle.field_base.specs.Powers.{dot_of}
use Rattle.field_base.specs.Remainder.{ghash_modulus, rem}
use Rattle.ghash_slices.specs.LowStages.{ghash_product}
use Rattle.many_words.proofs.lanes.add_pairs.Given as goal

-- the sum so far, and that of the pairs from this one on, are the whole
abbrev pub invariant-pairs : goal.invariant-pairs
invariant-pairs g l =
    let left = map g.W.Reads.number l.left in
    let right = map g.W.Reads.number l.right in
    bit_xor (rem 128 ghash_modulus (l.sum_high * 2 ^ 128 + l.sum_low))
    (dot_of ghash_product (λ x. x) (drop (l.start + 2 * l.pair) left) (drop (l.start + 2 * l.pair) right))
    ≡ bit_xor (rem 128 ghash_modulus (l.high * 2 ^ 128 + l.low)) (dot_of ghash_product (λ x. x) (drop l.start left) (drop l.start right))

-- and that of the places from this one on
abbrev pub invariant-rest : goal.invariant-rest
invariant-rest g l =
    let left = map g.W.Reads.number l.left in
    let right = map g.W.Reads.number l.right in
    bit_xor (rem 128 ghash_modulus (l.sum_high * 2 ^ 128 + l.sum_low))
    (dot_of ghash_product (λ x. x) (drop l.at left) (drop l.at right))
    ≡ bit_xor (rem 128 ghash_modulus (l.high * 2 ^ 128 + l.low)) (dot_of ghash_product (λ x. x) (drop l.start left) (drop l.start right))
