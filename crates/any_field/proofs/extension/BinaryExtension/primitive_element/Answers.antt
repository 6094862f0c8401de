use Rattle.std.proofs.Common.{below_more}
use Rattle.field_base.specs.Orders.{HasFullOrder}
use Rattle.any_field.specs.Contexts.{field_product}
use Rattle.any_field.proofs.OrderFactors.{refused}
use Rattle.any_field.proofs.extension.BinaryExtension.primitive_element.Goals as goal

pub loop-word-preserved : goal.loop-word-preserved
loop-word-preserved c =
    below_more (λ y. HasFullOrder c.args.self.degree (field_product c.args.self.degree c.args.self.tail) y → ⊥) c.loop-word.word
    c.loop-word.invariant (refused _ c.is_primitive.result c.if-is_primitive.false c.is_primitive.ensures.complete)
