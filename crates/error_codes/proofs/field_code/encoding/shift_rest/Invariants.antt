use Rattle.std.proofs.Common.{◌+◌, slice_index}
use Rattle.std.specs.Prelude.{bit_xor}
use Rattle.error_codes.proofs.FieldRows.{AreBehind}
use Rattle.error_codes.proofs.field_code.encoding.shift_rest.Given as goal

abbrev pub invariant-loop-j : goal.invariant-loop-j
invariant-loop-j g l =
    let h = l.initial.word in
    AreBehind (λ n. bit_xor (slice_index h (l.start + (n + 1)))
    (g.F.SymbolField.product l.field (bit_xor l.symbol (slice_index h l.start)) (slice_index l.generator (n + 1)))) l.start l.j h l.word
