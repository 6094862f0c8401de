use Rattle.std.proofs.Common.{ℕ, ◌+◌, ◌*◌, ◌<◌, length, ◌∙◌, ap₂, arith}
use Rattle.std.specs.Prelude.{bit_xor}
use Rattle.field_base.proofs.DotLemmas.{dot_of-drop, dot_step, dot_two_steps}
use Rattle.many_words.proofs.fields.dot_product.Goals as goal

pub pairs-preserved : goal.pairs-preserved
pairs-preserved g c =
    let kernel = g.K.FieldKernel in
    dot_two_steps kernel.product g.P.Reads.number c.args.left.now c.args.right.now (2 * c.pairs.pair) (2 * (c.pairs.pair + 1))
    c.index-left-at.result c.index-left-at-in-pairs.result c.index-right-at.result c.index-right-at-in-pairs.result _ _ _
    (omega arith) (omega arith) (omega arith) c.index-left-at.is c.index-left-at-in-pairs.is c.index-right-at.is
    c.index-right-at-in-pairs.is c.pairs.invariant
    (c.add_two_products.ensures
    ∙ ap₂ (λ (first second : ℕ). bit_xor (bit_xor (kernel.reduced c.pairs.low c.pairs.high) first) second)
    (ap₂ kernel.product c.stored-x.ensures c.stored-y.ensures)
    (ap₂ kernel.product c.stored-next_x.ensures c.stored-next_y.ensures))

pub rest-preserved : goal.rest-preserved
rest-preserved g c =
    let kernel = g.K.FieldKernel in
    let number = g.P.Reads.number in
    let x = c.index-left-at-in-rest.result in
    let y = c.index-right-at-in-rest.result in
    let within : c.rest.at < length c.args.left.now = omega arith in
    let within_right : c.rest.at < length c.args.right.now = omega arith in
    dot_step kernel.product number _ _ _ _ _ _ c.rest.invariant
    (dot_of-drop kernel.product number c.args.left.now c.args.right.now c.rest.at x y within within_right
    c.index-left-at-in-rest.is c.index-right-at-in-rest.is)
    (c.add_product.ensures
    ∙ ap₂ (λ (m n : ℕ). bit_xor (kernel.reduced c.rest.low c.rest.high) (kernel.product m n)) c.stored.ensures
    c.stored-in-rest.ensures)
