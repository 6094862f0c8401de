use Rattle.std.proofs.Common.{arith}
use Rattle.error_codes.proofs.CodeValues.{order-scaled}
use Rattle.error_codes.proofs.field_code.FieldCode.new.Goals as goal

pub invariant_of-result : goal.invariant_of-result
invariant_of-result g c =
    let s = g.F.SymbolField in
    let law = g.met.F.SymbolField in
    let field = c.args.field in
    let is = c.is_root.ensures.0 c.if-not-is_root.false in
    record {
      some_data = omega arith;
      some_checks = omega arith;
      short = omega arith;
      scaled =
          order-scaled (s.width field) (s.product field) (law.wide_law field) (law.field_law field) c.args.word_length c.args.root
          c.args.first_root is.0 is.1 is.2;
    }
