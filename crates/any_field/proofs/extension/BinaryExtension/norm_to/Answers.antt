use Rattle.std.proofs.Common.{◌≡◌, ℕ, ◌*◌, ◌/◌, ◌∙◌, ap, arith, subst, ◌^◌, ◌<◌, sym}
use Rattle.field_base.specs.Basis.{product_below}
use Rattle.field_base.specs.Powers.{repeated_square}
use Rattle.field_base.proofs.PowerLemmas.{repeated_square-lt}
use Rattle.any_field.specs.Contexts.{field_product}
use Rattle.any_field.proofs.ContextFields.{field-at}
use Rattle.any_field.proofs.Conjugates.{first-place, next-place, product-next, product-start, product-stays}
use Rattle.any_field.proofs.EuclidSteps.{positive}
use Rattle.any_field.proofs.WordRemainders.{context-ring}
use Rattle.any_field.proofs.extension.BinaryExtension.norm_to.Goals as goal

pub loop-init : goal.loop-init
loop-init c =
    let s = c.args.self in
    let times = field_product s.degree s.tail in
    let field = field-at s.degree s.tail s.ratio s.context s.irreducible in (
      product-start s.degree times s.context.wide field c.args.degree c.args.x,
      first-place s.degree times s.context.wide field c.args.degree c.args.x c.low_bits-moved.result c.low_bits-moved.ensures,
    )

pub loop-preserved : goal.loop-preserved
loop-preserved c =
    let s = c.args.self in
    let times = field_product s.degree s.tail in
    let field = field-at s.degree s.tail s.ratio s.context s.irreducible in (
      product-next s.degree times s.context.wide field c.args.degree c.args.x c.loop.counter c.loop.product c.loop.moved c.multiply-product.result
          c.loop.invariant.0 c.loop.invariant.1 c.multiply-product.ensures,
      next-place s.degree times s.context.wide field c.args.degree c.args.x c.loop.counter c.loop.moved c.square_times-moved.result
          c.loop.invariant.1 c.square_times-moved.ensures,
    )

pub returns-clause-norm : goal.returns-clause-norm
returns-clause-norm c =
    let last : c.loop.counter ≡ c.args.self.degree / c.args.degree = omega arith in
    let times = field_product c.args.self.degree c.args.self.tail in
    c.loop.invariant.0 ∙ ap (product_below times (λ i. repeated_square 1 times (i * c.args.degree) c.args.x)) last

pub returns-clause-subfield : goal.returns-clause-subfield
returns-clause-subfield c =
    let s = c.args.self in
    let times = field_product s.degree s.tail in
    let last : c.loop.counter ≡ s.degree / c.args.degree = omega arith in
    product-stays s.degree times s.context.wide (field-at s.degree s.tail s.ratio s.context s.irreducible) c.args.degree c.args.x
    (positive c.args.degree c.if-degree-eq0.false) c.if-left-ne0.false c.loop.product
    (c.loop.invariant.0 ∙ ap (product_below times (λ i. repeated_square 1 times (i * c.args.degree) c.args.x)) last)

pub square_times-moved-requires-clause-fits : goal.square_times-moved-requires-clause-fits
square_times-moved-requires-clause-fits c =
    let s = c.args.self in
    let times = field_product s.degree s.tail in
    subst (λ (z : ℕ). z < 2 ^ s.degree) (sym c.loop.invariant.1)
    (repeated_square-lt s.degree 1 times (context-ring s.degree s.tail s.ratio s.context) (c.loop.counter * c.args.degree) c.args.x)
