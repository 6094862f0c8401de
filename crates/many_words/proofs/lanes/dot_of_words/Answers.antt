use Rattle.std.proofs.Common.{◌≡◌, ℕ, ◌+◌, ◌*◌, ◌^◌, map, ◌∙◌, ap, ap₂, arith}
use Rattle.std.specs.Prelude.{bit_xor}
use Rattle.std.proofs.lemmas.List.{length-map}
use Rattle.field_base.specs.Remainder.{ghash_modulus, rem}
use Rattle.word_carryless.proofs.DotProducts.{none_added}
use Rattle.ghash_slices.specs.Fours.{with_four_products}
use Rattle.ghash_slices.proofs.FourProducts.{dot_from, four_added}
use Rattle.many_words.proofs.lanes.dot_of_words.Goals as goal

pub fours-init : goal.fours-init
fours-init g c = none_added (map g.W.Reads.number c.args.left.now) (map g.W.Reads.number c.args.right.now)

pub fours-preserved : goal.fours-preserved
fours-preserved g c =
    let left = map g.W.Reads.number c.args.left.now in
    let right = map g.W.Reads.number c.args.right.now in
    let sum = rem 128 ghash_modulus (c.fours.high * 2 ^ 128 + c.fours.low) in
    let next : 4 * c.fours.four + 4 ≡ 4 * (c.fours.four + 1) = omega arith in
    ap (λ (s : ℕ). bit_xor s (dot_from left right (4 * (c.fours.four + 1))))
    (c.add_four_products.ensures ∙ ap₂ (with_four_products sum) c.four_at.ensures c.four_at-in-fours.ensures)
    ∙ four_added left right (4 * c.fours.four) (4 * (c.fours.four + 1)) sum _ next (omega (arith, c.fours_added-four_count.ensures, length-map c.args.left.now g.W.Reads.number))
    (omega (arith, c.fours_added-four_count.ensures, length-map c.args.right.now g.W.Reads.number, c.requires)) c.fours.invariant

pub returns : goal.returns
returns g c =
    let left = map g.W.Reads.number c.args.left.now in
    let right = map g.W.Reads.number c.args.right.now in
    let done : 4 * c.fours_added-four_count.result ≡ 4 * c.fours.four = omega arith in
    c.add_pairs.ensures
    ∙ ap (λ (n : ℕ). bit_xor (rem 128 ghash_modulus (c.fours.high * 2 ^ 128 + c.fours.low)) (dot_from left right n)) done
    ∙ c.fours.invariant
