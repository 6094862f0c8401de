use Rattle.std.proofs.Common.{◌≡◌}
use Rattle.field_base.specs.Powers.{repeated_square, sum_of_squarings}
use Rattle.any_field.specs.Contexts.{field_product}
use Rattle.any_field.proofs.extension.BinaryExtension.trace.Given as goal

abbrev pub invariant-loop : goal.invariant-loop
invariant-loop l =
    let times = field_product l.fn.self.degree l.fn.self.tail in
    (l.sum ≡ sum_of_squarings 1 times l.counter l.fn.x) × (l.moved ≡ repeated_square 1 times l.counter l.fn.x)
