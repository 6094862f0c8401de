use Rattle.std.proofs.Common.{◌≡◌, ◌*◌}
use Rattle.field_base.specs.Basis.{product_below}
use Rattle.field_base.specs.Powers.{repeated_square}
use Rattle.any_field.specs.Contexts.{field_product}
use Rattle.any_field.proofs.extension.BinaryExtension.norm_to.Given as goal

-- as many conjugates are multiplied as there were turns
abbrev pub invariant-loop : goal.invariant-loop
invariant-loop l =
    let times = field_product l.fn.self.degree l.fn.self.tail in
    (l.product ≡ product_below times (λ i. repeated_square 1 times (i * l.fn.degree) l.fn.x) l.counter)
    × (l.moved ≡ repeated_square 1 times (l.counter * l.fn.degree) l.fn.x)
