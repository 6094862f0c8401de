use Rattle.std.proofs.Common.{◌≡◌, ◌<◌, ℕ, List, get_or, length, map, sym, ◌∙◌, ap, ap₂, arith}
use Rattle.std.specs.Prelude.{bit_xor}
use Rattle.std.proofs.lemmas.List.{get_or-map, length-map}
use Rattle.field_base.specs.Powers.{dot_of}
use Rattle.field_base.proofs.DotLemmas.{dot_end}
use Rattle.many_words.proofs.WordDots.{dot_of-map, dot_of-place, same_long}
use Rattle.many_words.proofs.dots.with_products.Goals as goal

pub multiply_in_slices-requires : goal.multiply_in_slices-requires
multiply_in_slices-requires g c =
    same_long g.R.Stored.number g.P.Reads.number c.read_each-2.new.words c.args.right.now c.read_each-2.ensures ∙ sym c.requires.same
    ∙ sym (same_long g.R.Stored.number g.P.Reads.number c.read_each.new.words c.args.left.now c.read_each.ensures)

pub loop-place-preserved : goal.loop-place-preserved
loop-place-preserved g c =
    let number = g.R.Stored.number in
    let product = g.K.FieldKernel.product in
    let left = map g.P.Reads.number c.args.left.now in
    let right = map g.P.Reads.number c.args.right.now in
    let place = c.loop-place.place in
    let read = c.read_each.new.words in
    let factors = c.read_each-2.new.words in
    let made = c.multiply_in_slices.new.products in
    let word = c.index-products-place.result in
    let r = number word in
    let inside : place < length made = omega (arith, c.loop-place-test.true) in
    let long = same_long number g.P.Reads.number read c.args.left.now c.read_each.ensures in
    let also = same_long number g.P.Reads.number factors c.args.right.now c.read_each-2.ensures in
    let within : place < length read = omega (arith, inside, c.multiply_in_slices.ensures.long) in
    let beside : place < length factors = omega (arith, within, long, also, c.requires.same) in
    let first : get_or left place r ≡ number (get_or read place word) =
    ap (λ (l : List ℕ). get_or l place r) (sym c.read_each.ensures) ∙ get_or-map number read place word r within in
    let second : get_or right place r ≡ number (get_or factors place word) =
    ap (λ (l : List ℕ). get_or l place r) (sym c.read_each-2.ensures) ∙ get_or-map number factors place word r beside in
    dot_of-place product (λ n. n) left right place r (number c.loop-place.sum) (number c.xor-sum.result)
    (bit_xor (number c.args.sum) (dot_of product (λ n. n) left right))
    (omega (arith, within, long, length-map c.args.left.now g.P.Reads.number))
    (omega (arith, beside, also, length-map c.args.right.now g.P.Reads.number))
    (ap number c.index-products-place.is ∙ c.multiply_in_slices.ensures.products place inside word
    ∙ ap₂ product (sym first) (sym second))
    c.loop-place.invariant c.xor-sum.ensures

pub returns : goal.returns
returns g c =
    let number = g.R.Stored.number in
    let product = g.K.FieldKernel.product in
    let left = map g.P.Reads.number c.args.left.now in
    let right = map g.P.Reads.number c.args.right.now in
    let long = same_long number g.P.Reads.number c.read_each.new.words c.args.left.now c.read_each.ensures in
    dot_end product (λ n. n) left right c.loop-place.place (bit_xor (number c.args.sum) (dot_of product (λ n. n) left right))
    (number c.loop-place.sum)
    (omega (arith, c.loop-place-test.false, c.multiply_in_slices.ensures.long, long, length-map c.args.left.now g.P.Reads.number))
    c.loop-place.invariant
    ∙ ap (bit_xor (number c.args.sum)) (dot_of-map product g.P.Reads.number c.args.left.now c.args.right.now)
