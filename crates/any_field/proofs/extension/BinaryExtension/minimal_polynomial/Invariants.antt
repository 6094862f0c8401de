use Rattle.std.proofs.Common.{◌≡◌, ◌^◌, length}
use Rattle.any_field.specs.Contexts.{field_product}
use Rattle.any_field.specs.Values.{binary_value}
use Rattle.any_field.proofs.PowerRelations.{IsSpan}
use Rattle.any_field.proofs.extension.BinaryExtension.minimal_polynomial.Given as goal

-- no power so far is a sum of lower ones
abbrev pub invariant-loop-degree : goal.invariant-loop-degree
invariant-loop-degree l =
    let value = binary_value (field_product l.fn.self.degree l.fn.self.tail) l.fn.x in
    record {
      values_long : length l.values ≡ 128;
      polynomials_long : length l.polynomials ≡ 128;
      span : IsSpan value l.values l.polynomials l.degree;
      power_is : l.power ≡ value (2 ^ l.degree);
    }
