use Rattle.std.proofs.Common.{ℕ, ◌<◌, ◌^◌, sym, subst}
use Rattle.field_element.specs.Element.{repr_of}
use Rattle.many_words.proofs.WordDots.{dot_of-below}
use Rattle.field_element.proofs.element.lanes.dot_of_words.Goals as goal

pub returns-clause-sum : goal.returns-clause-sum
returns-clause-sum g c = c.dot_product.ensures

pub returns-clause-fits : goal.returns-clause-fits
returns-clause-fits g c =
    let kernel = g.K.FieldKernel in
    subst (λ (n : ℕ). n < 2 ^ kernel.width) (sym c.dot_product.ensures)
    (dot_of-below kernel.width 1 kernel.product kernel.field_law.ring repr_of c.args.left.now c.args.right.now)
