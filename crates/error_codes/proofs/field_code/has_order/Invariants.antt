use Rattle.std.proofs.Common.{◌≡◌}
use Rattle.field_base.specs.Powers.{power}
use Rattle.error_codes.proofs.FieldPowers.{HasNoOne}
use Rattle.error_codes.proofs.field_code.has_order.Given as goal

abbrev pub invariant-loop-d : goal.invariant-loop-d
invariant-loop-d g l =
    (l.next ≡ power 1 (g.F.SymbolField.product l.field) l.root l._d)
    × HasNoOne (g.F.SymbolField.product l.field) l.root l._d
