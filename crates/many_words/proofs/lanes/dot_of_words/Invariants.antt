use Rattle.std.proofs.Common.{◌≡◌, ◌+◌, ◌*◌, ◌^◌, drop, map}
use Rattle.std.specs.Prelude.{bit_xor}
use Rattle.field_base.specs.Powers.{dot_of}
use Rattle.field_base.specs.Remainder.{ghash_modulus, rem}
use Rattle.ghash_slices.specs.LowStages.{ghash_product}
use Rattle.many_words.proofs.lanes.dot_of_words.Given as goal

-- the sum so far, and that of the products from this four on, are the whole
abbrev pub invariant-fours : goal.invariant-fours
invariant-fours g l =
    bit_xor (rem 128 ghash_modulus (l.high * 2 ^ 128 + l.low))
    (dot_of ghash_product (λ x. x) (drop (4 * l.four) (map g.W.Reads.number l.left)) (drop (4 * l.four) (map g.W.Reads.number l.right)))
    ≡ dot_of ghash_product (λ x. x) (map g.W.Reads.number l.left) (map g.W.Reads.number l.right)
