use Rattle.std.proofs.Common.{◌≡◌}
use Rattle.error_codes.specs.Filling.{falling_point, falling_scale, is_other, marked_product}
use Rattle.error_codes.proofs.field_code.FieldCode.denominator.Given as goal

abbrev pub invariant-loop-j : goal.invariant-loop-j
invariant-loop-j g l =
    let times = g.F.SymbolField.product l.self.field in
    let n = l.self.word_length in
    let point = falling_point times l.self.root n in
    l.product ≡ times (falling_scale times l.self.root l.self.first_root n l.place)
    (marked_product times point (is_other l.marked l.place) l.j (point l.place))
