use Rattle.std.proofs.Common.{◌∙◌, ap₂}
use Rattle.std.specs.Prelude.{bit_xor}
use Rattle.field_slices.proofs.RoundSums.{round-message}
use Rattle.field_slices.proofs.rounds.RoundPolynomial.of.Goals as goal

pub returns : goal.returns
returns g c x =
    let field = g.F.Represented in
    let law = g.met.F.Represented in
    let crossed =
    law.add_law c.dot_product_of_slices.result c.dot_product_of_slices-2.result c.add-crossed.result c.add-crossed.ensures
    ∙ ap₂ bit_xor c.dot_product_of_slices.ensures c.dot_product_of_slices-2.ensures in
    round-message g.met.F.Field.field_law.ring field.repr c.args.left.now c.args.right.now
    c.split_at.result.0.now c.split_at.result.1.now c.split_at-2.result.0.now c.split_at-2.result.1.now _ x
    c.requires.same c.requires.even c.split_at.ensures.front c.split_at.ensures.back c.split_at-2.ensures.front c.split_at-2.ensures.back
    c.dot_product_of_slices-at_zero.ensures crossed
    (law.add_law c.add.result c.add-crossed.result c.add-2.result c.add-2.ensures
    ∙ ap₂ bit_xor
    (law.add_law c.dot_product_of_slices-at_zero.result c.dot_product_of_slices-at_one.result c.add.result c.add.ensures
    ∙ ap₂ bit_xor c.dot_product_of_slices-at_zero.ensures c.dot_product_of_slices-at_one.ensures)
    crossed)
