use Rattle.std.proofs.Common.{◌≡◌, slice_index}
use Rattle.error_codes.specs.Correcting.{code_value}
use Rattle.error_codes.proofs.field_code.value_at.Given as goal

-- what is there, by the bits of the field
abbrev pub invariant-loop-symbol : goal.invariant-loop-symbol
invariant-loop-symbol g l =
    let times = g.F.SymbolField.product l.field in
    times l.value 1 ≡ code_value times l.symbol-index (slice_index l.word) l.x
