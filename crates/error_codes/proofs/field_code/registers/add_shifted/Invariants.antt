use Rattle.std.proofs.Common.{◌+◌, slice_index}
use Rattle.std.specs.Prelude.{bit_xor}
use Rattle.error_codes.proofs.FieldRows.{AreBehind}
use Rattle.error_codes.proofs.field_code.registers.add_shifted.Given as goal

abbrev pub invariant-loop-i : goal.invariant-loop-i
invariant-loop-i g l =
    let h = l.initial.coefficients in
    AreBehind (λ n. bit_xor (slice_index h (l.shift + n)) (g.F.SymbolField.product l.field l.factor (slice_index l.older n)))
    l.shift l.i h l.coefficients
