use Rattle.std.proofs.Common.{◌≡◌, ℕ, ◌+◌, ◌*◌, ◌≤◌, length, map, ◌∙◌, ap₂, subst, arith}
use Rattle.std.proofs.lemmas.List.{length-map}
use Rattle.ghash_slices.specs.Blocks.{HoldsPlaces}
use Rattle.ghash_slices.specs.LowStages.{ghash_product}
use Rattle.ghash_slices.proofs.SliceBlocks.{held_until, none_held, pair_written, place_written}
use Rattle.ghash_slices.specs.Fours.{product_at}
use Rattle.many_words.proofs.lanes.multiply_by_pairs.Goals as goal

pub pairs-init : goal.pairs-init
pairs-init g c =
    let old = map g.W.Reads.number c.args.words.now in
    let others = map g.W.Reads.number c.args.others.now in
    let at : c.args.start ≡ c.args.start + 2 * 0 = omega arith in
    subst (λ (n : ℕ). HoldsPlaces (product_at old others) c.args.start n old old) at (none_held (product_at old others) c.args.start old)

pub pairs-preserved : goal.pairs-preserved
pairs-preserved g c =
    let old = map g.W.Reads.number c.args.words.now in
    let others = map g.W.Reads.number c.args.others.now in
    let start = c.args.start in
    let at : ℕ = start + 2 * c.pairs.pair in
    let long = length-map c.pairs.words g.W.Reads.number in
    let next : at + 2 ≡ start + 2 * (c.pairs.pair + 1) = omega arith in
    let products = c.multiply_mod_128_twice-first in
    let here : at ≤ at = omega arith in
    let later : at ≤ at + 1 = omega arith in
    subst (λ (n : ℕ). HoldsPlaces (product_at old others) start n old (map g.W.Reads.number c.put_number-in-pairs.new.words)) next
    (pair_written (product_at old others) start at old (map g.W.Reads.number c.pairs.words) (map g.W.Reads.number c.put_number.new.words)
    (map g.W.Reads.number c.put_number-in-pairs.new.words) products.result.0 products.result.1 (omega arith) (omega (arith, long)) c.put_number.ensures
    (products.ensures.first ∙ ap₂ ghash_product (c.two_at-word.ensures.first ∙ c.pairs.invariant.behind at here) c.two_at-other.ensures.first)
    c.put_number-in-pairs.ensures
    (products.ensures.second
    ∙ ap₂ ghash_product (c.two_at-word.ensures.second ∙ c.pairs.invariant.behind (at + 1) later) c.two_at-other.ensures.second)
    c.pairs.invariant)

pub rest-preserved : goal.rest-preserved
rest-preserved g c =
    let old = map g.W.Reads.number c.args.words.now in
    let others = map g.W.Reads.number c.args.others.now in
    let at = c.rest.at in
    let long = length-map c.rest.words g.W.Reads.number in
    let here : at ≤ at = omega arith in
    place_written (product_at old others) c.args.start at old (map g.W.Reads.number c.rest.words) (map g.W.Reads.number c.put_number-in-rest.new.words)
    c.multiply_mod_128-product.result (omega arith) (omega (arith, long)) c.put_number-in-rest.ensures
    (c.multiply_mod_128-product.ensures
    ∙ ap₂ ghash_product (c.number_at.ensures ∙ c.rest.invariant.behind at here) c.number_at-in-rest.ensures)
    c.rest.invariant

pub returns : goal.returns
returns g c =
    let old = map g.W.Reads.number c.args.words.now in
    let long = length-map c.args.words.now g.W.Reads.number in
    held_until (product_at old (map g.W.Reads.number c.args.others.now)) c.args.start c.rest.at (length c.args.words.now) old
    (map g.W.Reads.number c.rest.words) (omega (arith, long)) (omega (arith, long)) c.rest.invariant
