use Rattle.std.proofs.Common.{◌≡◌, ◌-◌, slice_index}
use Rattle.field_base.specs.Basis.{sum_below}
use Rattle.error_codes.proofs.field_code.registers.sum_at.Given as goal

abbrev pub invariant-loop-i : goal.invariant-loop-i
invariant-loop-i g l =
    l.sum ≡ sum_below (λ i. g.F.SymbolField.product l.field (slice_index l.coefficients i) (slice_index l.entries (l.l - i))) l.i
