use Rattle.std.proofs.Common.{◌≡◌, ◌%◌, ◌^◌, drop}
use Rattle.field_base.specs.Powers.{value_of}
use Rattle.any_field.specs.Contexts.{field_product}
use Rattle.any_field.proofs.extension.BinaryExtension.evaluate.Given as goal

-- what is there is the value of the coefficients from this place on
abbrev pub invariant-loop-place : goal.invariant-loop-place
invariant-loop-place l =
    l.value ≡ value_of 1 (field_product l.fn.self.degree l.fn.self.tail) (λ c. c % 2 ^ l.fn.self.degree) (drop l.place l.coefficients) l.fn.x
