use Rattle.std.proofs.Common.{◌≡◌, ℕ, ◌∙◌, ap, arith}
use Rattle.field_base.specs.Powers.{sum_of_squarings}
use Rattle.any_field.specs.Contexts.{field_product}
use Rattle.any_field.proofs.ContextFields.{field-at}
use Rattle.any_field.proofs.TraceBits.{sum-start, sum-step, trace-bit}
use Rattle.any_field.proofs.WordRemainders.{context-ring}
use Rattle.any_field.proofs.extension.BinaryExtension.trace.Goals as goal

pub loop-init : goal.loop-init
loop-init c =
    sum-start c.args.self.degree (field_product c.args.self.degree c.args.self.tail)
    (context-ring c.args.self.degree c.args.self.tail c.args.self.ratio c.args.self.context) c.args.x c.low_bits-moved.result c.low_bits-moved.ensures

pub loop-preserved : goal.loop-preserved
loop-preserved c =
    sum-step c.args.self.degree (field_product c.args.self.degree c.args.self.tail)
    (context-ring c.args.self.degree c.args.self.tail c.args.self.ratio c.args.self.context) c.loop.counter c.args.x c.loop.sum c.loop.moved
    c.square-moved.result c.loop.invariant.0 c.loop.invariant.1 c.square-moved.ensures

pub returns : goal.returns
returns c =
    let last : c.loop.counter ≡ c.args.self.degree = omega arith in
    let times = field_product c.args.self.degree c.args.self.tail in
    let is = c.loop.invariant.0 ∙ ap (λ (n : ℕ). sum_of_squarings 1 times n c.args.x) last in
    record {
      trace = is;
      bit =
          trace-bit c.args.self.degree times (field-at c.args.self.degree c.args.self.tail c.args.self.ratio c.args.self.context c.args.self.irreducible)
          c.args.self.context.wide c.args.x c.loop.sum is;
    }
