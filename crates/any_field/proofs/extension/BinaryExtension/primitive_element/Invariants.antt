use Rattle.std.proofs.Common.{ℕ, ◌<◌}
use Rattle.field_base.specs.Orders.{HasFullOrder}
use Rattle.any_field.specs.Contexts.{field_product}
use Rattle.any_field.proofs.extension.BinaryExtension.primitive_element.Given as goal

-- no smaller word is primitive
abbrev pub invariant-loop-word : goal.invariant-loop-word
invariant-loop-word l = (y : ℕ) → y < l.word → HasFullOrder l.fn.self.degree (field_product l.fn.self.degree l.fn.self.tail) y → ⊥
