use Rattle.std.proofs.Common.{◌≡◌, ℕ, ◌+◌, ◌*◌, ◌^◌, drop, map, sym, ◌∙◌, ap, ap₂, arith}
use Rattle.std.specs.Prelude.{bit_xor}
use Rattle.std.proofs.lemmas.List.{length-map}
use Rattle.field_base.specs.Carryless.{carryless}
use Rattle.field_base.specs.Powers.{dot_of}
use Rattle.field_base.specs.Remainder.{ghash_modulus, rem}
use Rattle.field_base.proofs.DotLemmas.{dot_end}
use Rattle.word_carryless.proofs.DotProducts.{one_added, two_added}
use Rattle.ghash_slices.specs.LowStages.{ghash_product}
use Rattle.many_words.proofs.lanes.add_pairs.Goals as goal

pub pairs-init : goal.pairs-init
pairs-init g c =
    let left = map g.W.Reads.number c.args.left.now in
    let right = map g.W.Reads.number c.args.right.now in
    let at : c.args.start + 2 * 0 ≡ c.args.start = omega arith in
    ap (λ (n : ℕ). bit_xor (rem 128 ghash_modulus (c.args.high * 2 ^ 128 + c.args.low))
    (dot_of ghash_product (λ x. x) (drop n left) (drop n right))) at

pub pairs-preserved : goal.pairs-preserved
pairs-preserved g c =
    let left = map g.W.Reads.number c.args.left.now in
    let right = map g.W.Reads.number c.args.right.now in
    let at : ℕ = c.args.start + 2 * c.pairs.pair in
    let products = c.multiply_128_twice-a_low in
    two_added left right at (c.args.start + 2 * (c.pairs.pair + 1)) c.pairs.sum_low c.pairs.sum_high
    products.result.0.0 products.result.0.1 products.result.1.0 products.result.1.1 _ (omega arith)
    (omega (arith, length-map c.args.left.now g.W.Reads.number)) (omega (arith, length-map c.args.right.now g.W.Reads.number, c.requires.same))
    c.numbers_fit.ensures c.numbers_fit-2.ensures
    (omega arith) (omega arith) (omega arith)
    (sym (ap₂ carryless c.two_at-word.ensures.first c.two_at-other.ensures.first) ∙ products.ensures.first)
    (sym (ap₂ carryless c.two_at-word.ensures.second c.two_at-other.ensures.second) ∙ products.ensures.second)
    c.pairs.invariant

pub rest-preserved : goal.rest-preserved
rest-preserved g c =
    let left = map g.W.Reads.number c.args.left.now in
    let right = map g.W.Reads.number c.args.right.now in
    one_added left right c.rest.at c.rest.sum_low c.rest.sum_high c.multiply_128-product_low.result.0 c.multiply_128-product_low.result.1 _
    (omega (arith, length-map c.args.left.now g.W.Reads.number)) (omega (arith, length-map c.args.right.now g.W.Reads.number, c.requires.same))
    c.numbers_fit.ensures c.numbers_fit-2.ensures
    (omega arith) (omega arith)
    (sym (ap₂ carryless c.number_at.ensures c.number_at-in-rest.ensures) ∙ c.multiply_128-product_low.ensures) c.rest.invariant

pub returns : goal.returns
returns g c =
    let left = map g.W.Reads.number c.args.left.now in
    let right = map g.W.Reads.number c.args.right.now in
    c.reduce_128.ensures
    ∙ dot_end ghash_product (λ n. n) left right c.rest.at _ (rem 128 ghash_modulus (c.rest.sum_high * 2 ^ 128 + c.rest.sum_low))
    (omega (arith, length-map c.args.left.now g.W.Reads.number)) c.rest.invariant
